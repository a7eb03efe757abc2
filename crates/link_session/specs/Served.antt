-- How a service ends.
use Rattle.std.specs.Prelude.{◌≡◌, ℕ, ◌<◌, ◌≤◌, Bool, true, false, Option, Some, List, [], length, take, Result, Ok}
use Rattle.std.specs.Prelude.{Err, IfErr, IfSome}
use Rattle.std.specs.List.{concat}
use Rattle.std.specs.Io.KnownBytes.{Appends, Consumes}
use Rattle.tach_media.specs.Medium.{State, Rose}
use Rattle.tach_media.specs.Streams.{AppendsFront}
use Rattle.unit_model.specs.Decoding.{first_bad_place}
use Rattle.unit_minutes.specs.Reading.{ReadsIfAny}
use Rattle.link_model.specs.declared.request.Request.{Request}
use Rattle.link_model.specs.declared.side.End.TheVariants as side
use Rattle.link_model.specs.Frames.{Heard}
use Rattle.link_model.specs.Hearing.{heard_in}
use Rattle.link_model.specs.Answers.{LinkState, Idle, run_from, frames_out}
use Rattle.link_session.specs.declared.asking.AnswerFault.{AnswerFault}
use Rattle.link_session.specs.declared.asking.AnswerFault.TheVariants as session
use Rattle.link_session.specs.Lines.{bytes_of, StopsAsking}
use Rattle.link_session.specs.declared.line.Spelling.{Spelling}
use Rattle.link_session.specs.declared.line.Spelling.TheVariants.{Bytes}
use Rattle.link_session.specs.declared.fault.ServeFault.{ServeFault}
use Rattle.link_session.specs.declared.fault.ServeFault.TheVariants.{ReadFault, WriteFault, Failed, BadUnit, TooLong}
use Rattle.link_session.specs.declared.service.TheConstants.{MOST}

-- THE ANSWERS: the bytes of the frames that go out for the bytes that come in
abbrev pub answers_to : (Request → Option (List ℕ)) → List ℕ → List ℕ
answers_to messages bytes = concat (frames_out messages Idle bytes)

-- What went to the sink for what was heard, where the sink or the unit ended the answers: a front of them; or those to
-- the frames before one whose answer hangs on the unit.
abbrev pub Stops : Spelling → ServeFault → (Request → Option (List ℕ)) → LinkState → List Heard
    → (held sunk : Option (List ℕ)) → Type 0
Stops spelling ReadFault messages state seen held sunk = ⊥
Stops spelling WriteFault messages state seen held sunk = AppendsFront held sunk
    (bytes_of spelling (run_from messages state seen))
Stops spelling Failed messages state seen held sunk = StopsAsking spelling messages state seen held sunk
Stops spelling (BadUnit place) messages state seen held sunk = StopsAsking spelling messages state seen held sunk
Stops spelling TooLong messages state seen held sunk = ⊥

-- the same for bytes of which so many may come: of more the first alone are answered
abbrev pub StopsWithin : Spelling → ServeFault → (Request → Option (List ℕ)) → LinkState → (kept : List ℕ) → (left : ℕ)
    → List ℕ → (held sunk : Option (List ℕ)) → Type 0
StopsWithin spelling TooLong messages state kept left bytes held sunk =
    (left < length bytes) × Appends held sunk
    (bytes_of spelling (run_from messages state (heard_in side.Unit kept (take left bytes))))
StopsWithin spelling fault messages state kept left bytes held sunk = Stops spelling fault messages state
    (heard_in side.Unit kept (take left bytes)) held sunk

-- What went to the sink for bytes that came: their answers; the answers to the first 16777216 where more came; less
-- where the sink or the unit ended the service, and then because of these bytes.
abbrev pub Sends : {T : Type 0} → Result T ServeFault → (Request → Option (List ℕ)) → (came : List ℕ)
    → (held sunk : Option (List ℕ)) → Type 0
Sends (Ok done) messages came held sunk = (length came ≤ MOST) × Appends held sunk (answers_to messages came)
Sends (Err ReadFault) messages came held sunk = (length came ≤ MOST) × Appends held sunk (answers_to messages came)
Sends (Err TooLong) messages came held sunk = (MOST < length came)
    × Appends held sunk (answers_to messages (take MOST came))
Sends (Err fault) messages came held sunk = Stops Bytes fault messages Idle (heard_in side.Unit [] (take MOST came))
    held sunk

-- The bytes that came from the source, and what went to the sink for them.
pub record IsServed {T : Type 0} (result : Result T ServeFault) (messages : Request → Option (List ℕ))
    (left unread held sunk : Option (List ℕ)) : Type 0 where
  pub came : List ℕ
  pub consumed : Consumes left unread came
  pub sends : Sends result messages came held sunk

-- the source failed, the sink failed, or the unit's image has this place; the other faults have their causes elsewhere
abbrev pub IsCaused : ServeFault → (read wrote : Type 0) → (ℕ → Type 0) → Type 0
IsCaused ReadFault read wrote Bad = read
IsCaused WriteFault read wrote Bad = wrote
IsCaused Failed read wrote Bad = Unit {0}
IsCaused (BadUnit place) read wrote Bad = Bad place
IsCaused TooLong read wrote Bad = Unit {0}

-- the answer is that the unit failed
abbrev pub has_failed : {T : Type 0} → Result T ServeFault → Bool
has_failed (Ok done) = false
has_failed (Err ReadFault) = false
has_failed (Err WriteFault) = false
has_failed (Err Failed) = true
has_failed (Err (BadUnit place)) = false
has_failed (Err TooLong) = false

-- a session's fault, as the service tells it
abbrev pub fault_of : AnswerFault → ServeFault
fault_of session.Failed = Failed
fault_of (session.BadUnit place) = BadUnit place

-- WHATEVER A CALL ON THE LINK ANSWERS: where it stops, the sink or the unit has failed, or the unit's image has this
-- bad place; no count of the sink's faults falls; and the unit is read, if at all, and never written.
pub record LinkGoes {T : Type 0} (result : Result T ServeFault) (old new : State) (before after : ℕ) : Type 0 where
  pub cause : IfErr result (λ fault. IsCaused fault ⊥ (Rose before after)
      (λ p. IfSome old.image (λ x. first_bad_place x ≡ Some p)))
  pub counts : before ≤ after
  pub unit : ReadsIfAny old new (has_failed result)
