-- What the commands `serve` and `serve --hex` do: the unit answers the bytes of the source on the link, or those that
-- its lines spell.
use Rattle.std.specs.Prelude.{◌≡◌, ℕ, ⊤, List, Option, Some, IfSome, Result, Ok, Err}
use Rattle.std.specs.Io.KnownBytes.{Appends, IsAtEnd}
use Rattle.run_model.specs.declared.Device.TheVariants.{Unit as OfUnit}
use Rattle.message_model.specs.Sending.{content_sent}
use Rattle.unit_model.specs.Decoding.{first_bad_place}
use Rattle.unit_minutes.specs.Reading.{ReadsIfAny}
use Rattle.link_session.specs.declared.fault.ServeFault.{ServeFault}
use Rattle.link_session.specs.declared.fault.ServeFault.TheVariants as service
use Rattle.link_session.specs.declared.fault.LinesFault.{LinesFault}
use Rattle.link_session.specs.declared.fault.LinesFault.TheVariants as lines
use Rattle.link_session.specs.Served.{IsServed, answers_to}
use Rattle.link_session.specs.ServedLines.{AreServed, WholeAnswered}
use Rattle.link_session.specs.Asked.{Asking, AnswersInTime}
use Rattle.tacho.specs.declared.forms.Form.{Form}
use Rattle.trace_model.specs.declared.Card.TheVariants.{A, B}
use Rattle.card_service.specs.Serving.{CardInTime}
use Rattle.packet_service.specs.Serving.{AllAnswered}
use Rattle.packet_service.specs.Loading.{LinkInTime}
use Rattle.tacho.specs.declared.forms.Form.TheVariants.{Serve, ServeHex, ServePackets, ServeCard, DownloadPackets}
use Rattle.tacho.specs.declared.end.Fault.{Fault}
use Rattle.tacho.specs.declared.end.Fault.TheVariants.{Done, BadTrace, TooLong, BadUnit, ReadFault, WriteFault}
use Rattle.tacho.specs.declared.end.Fault.TheVariants.{MediumFault, Memory}
use Rattle.tacho.specs.End.{is_medium_fault}
use Rattle.tacho.specs.Outside.{Outside}

-- the end where a service of the link ended before its source
abbrev pub serve_refusal_of : ServeFault → Fault
serve_refusal_of service.ReadFault = ReadFault
serve_refusal_of service.WriteFault = WriteFault
serve_refusal_of service.Failed = MediumFault OfUnit
serve_refusal_of (service.BadUnit place) = BadUnit place
serve_refusal_of service.TooLong = TooLong 0

-- the end by what a service of the link answers; it takes no memory, so none ends by want of it
abbrev pub end_of_service : Result (Unit {0}) ServeFault → Fault
end_of_service (Ok done) = Done
end_of_service (Err fault) = serve_refusal_of fault

-- the end by what a service of lines answers
abbrev pub end_of_lines : Result (Unit {0}) LinesFault → Fault
end_of_lines (Ok done) = Done
end_of_lines (Err (lines.Ended fault)) = serve_refusal_of fault
end_of_lines (Err (lines.BadLine number)) = BadTrace number
end_of_lines (Err lines.Memory) = Memory

-- HOW `serve` ENDS.
pub record EndsServe (old new : Outside) (fault : Fault) : Type 0 where
  -- It ends as a service of the link does.
  pub ended : Result (Unit {0}) ServeFault
  pub ends : fault ≡ end_of_service ended
  -- Over a unit that tells its image, the sink gained the answers to what came from the source, by the messages of that
  -- image, and nothing else; where the sink or the unit failed, or the unit is bad, less, as `Sends` says for each end.
  pub served : IfSome old.unit.image (λ x. IsServed ended (content_sent x) old.source.left new.source.left old.sink.held
      new.sink.held)
  -- Done: nothing of the source is left.
  pub read : fault ≡ Done → IsAtEnd new.source.left
  -- A unit is bad at the first place of its image that fails.
  pub bad_unit : (place : ℕ) → fault ≡ BadUnit place → IfSome old.unit.image (λ x. first_bad_place x ≡ Some place)
  -- The unit is read, if at all, and never written.
  pub unit : ReadsIfAny old.unit new.unit (is_medium_fault fault)

-- HOW `serve --hex` ENDS: as `serve`, of the bytes that the source's lines spell, each answer as a line; a line that
-- spells none is refused by its number, from 1, and memory may run out behind answers.
pub record EndsServeHex (old new : Outside) (fault : Fault) : Type 0 where
  pub ended : Result (Unit {0}) LinesFault
  pub ends : fault ≡ end_of_lines ended
  pub served : IfSome old.unit.image (λ x. AreServed ended (content_sent x) old.source.left new.source.left
      old.sink.held new.sink.held)
  pub read : fault ≡ Done → IsAtEnd new.source.left
  pub bad_unit : (place : ℕ) → fault ≡ BadUnit place → IfSome old.unit.image (λ x. first_bad_place x ≡ Some place)
  pub unit : ReadsIfAny old.unit new.unit (is_medium_fault fault)

-- WHAT A LOADER HAS SEEN at each read of its bytes, where it tells: over a unit that tells its image, the answers to
-- all that it had sent; of lines, to all that had ended; of packets, also of a card's, to all that were whole. And a
-- unit that waits for a loader's packets has had those that are sent behind all that came. Of other forms nothing is
-- said.
abbrev pub FormInTime : Form → (old new : Outside) → (before now : Option (List Asking)) → Type 0
FormInTime Serve old new before now = IfSome old.unit.image
    (λ x. AnswersInTime (λ came held sunk. Appends held sunk (answers_to (content_sent x) came))
    old.source.left new.source.left old.sink.held before now)
FormInTime ServeHex old new before now = IfSome old.unit.image
    (λ x. AnswersInTime (WholeAnswered (content_sent x)) old.source.left new.source.left old.sink.held before now)
FormInTime ServePackets old new before now = AnswersInTime (AllAnswered old.unit.image) old.source.left new.source.left
    old.sink.held before now
FormInTime (ServeCard A) old new before now = AnswersInTime (CardInTime old.card_a.memory old.card_a.state)
    old.source.left new.source.left old.sink.held before now
FormInTime (ServeCard B) old new before now = AnswersInTime (CardInTime old.card_b.memory old.card_b.state)
    old.source.left new.source.left old.sink.held before now
FormInTime DownloadPackets old new before now = AnswersInTime LinkInTime old.source.left new.source.left old.sink.held
    before now
FormInTime form old new before now = ⊤

-- a loader that waits for answers has had them, where the words ask for a service
abbrev pub AnswersWaiting : Option Form → (old new : Outside) → (before now : Option (List Asking)) → Type 0
AnswersWaiting asked old new before now = IfSome asked (λ form. FormInTime form old new before now)
