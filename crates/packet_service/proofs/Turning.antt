-- A service of packets, read after read.
use Rattle.std.proofs.Common.{◌≡◌, ◌∙◌, ℕ, ◌+◌, ◌<◌, ◌≤◌, false, List, [], ◌∷◌, ◌++◌, length, take, Option, Some, IfSome, Result, Ok, Err, sym, ap, subst, inl, inr, arith, append-nil, length-append}
use Rattle.std.specs.Prelude.{IsErrAnd}
use Rattle.std.specs.Io.KnownBytes.{Consumes, Keeps}
use Rattle.std.proofs.KnownBytes.{Consumes-nil, Consumes-trans, Consumes-kept}
use Rattle.tach_media.specs.Medium.{State}
use Rattle.tach_media.proofs.Runs.{err_is}
use Rattle.unit_memory.proofs.Told.{told_all}
use Rattle.unit_messages.proofs.Calls.{no_call, any_then}
use Rattle.unit_minutes.specs.Reading.{ReadsIfAny}
use Rattle.link_model.specs.Answers.{Idle}
use Rattle.link_session.specs.Told.{SessionView, Knows, fresh}
use Rattle.unit_download.proofs.Talking.{fresh_knows}
use Rattle.noisy_model.specs.Ends.{UnitEnd}
use Rattle.link_session.specs.declared.fault.ServeFault.{ServeFault}
use Rattle.link_session.specs.declared.fault.ServeFault.TheVariants.{ReadFault, WriteFault, Failed, BadUnit, TooLong}
use Rattle.link_session.specs.Asked.{Asking, TellsMore, AnswersInTime}
use Rattle.link_session.proofs.Asked.{IsTimely, timely_none, timely_on, timely_told}
use Rattle.packet_service.specs.declared.serving.UnitLine.{UnitLine}
use Rattle.packet_service.specs.declared.serving.TheConstants.{MOST_TURNS}
use Rattle.packet_service.specs.Datagrams.{IsPart}
use Rattle.packet_service.specs.Serving.{IsServing, StopsAt, ServingAll, AllAnswered, PacketsSend, ArePacketsServed, fresh_end}
use Rattle.packet_service.proofs.Answering.{serving_none}

-- what is told of each read: all that had come was answered
abbrev pub Answered : (image : Option (List ℕ)) → (none : List ℕ) → (came : List ℕ) → (held sunk : Option (List ℕ)) → Type 0
Answered image none came held sunk = AllAnswered image came held sunk

-- reads were made, and all that they gave was answered
pub record IsTurning (turn : ℕ) (image left unread : Option (List ℕ)) (line : UnitLine) (held sunk : Option (List ℕ)) (before asked : Option (List Asking)) (old new : State) : Type 0 where
  pub came : List ℕ
  pub serving : IsServing image came line.gathering line.end held sunk
  pub timely : IsTimely (Answered image) came (Some []) held before asked
  pub consumed : Consumes left unread came
  pub turns : turn ≤ length came
  pub knows : IfSome image (Knows line.end.side)
  pub reads : ReadsIfAny old new false

pub all_so : {image : Option (List ℕ)} {came part : List ℕ} {end : UnitEnd SessionView} {held sunk : Option (List ℕ)} → IsServing image came part end held sunk → AllAnswered image came held sunk
all_so {image} {came} {part} {end} {held} {sunk} s = record { part = part; end = end; serving = s }

pub part_so : {image : Option (List ℕ)} {came part : List ℕ} {end : UnitEnd SessionView} {held sunk : Option (List ℕ)} → IsServing image came part end held sunk → IsPart part
part_so s = s.cut.is_part

pub turning_none : (s : State) (left held : Option (List ℕ)) (line : UnitLine) (before : Option (List Asking)) → line.end ≡ fresh_end → line.gathering ≡ [] → IsTurning 0 s.image left left line held held before before s s
turning_none s left held line before fresh none = record {
  came = [];
  serving = serving_none s.image line.gathering line.end held none fresh;
  timely = timely_none (Answered s.image) (Some []) held before;
  consumed = Consumes-nil left;
  turns = omega arith;
  knows = told_all s.image _ (λ x told. subst (λ (e : UnitEnd SessionView). Knows e.side x) (sym fresh) (fresh_knows Idle x));
  reads = no_call s;
}

module _ {turn : ℕ} {image left unread held sunk : Option (List ℕ)} {line : UnitLine} {before asked : Option (List Asking)} {old mid : State} (t : IsTurning turn image left unread line held sunk before asked old mid) where
  -- a read was made, of these bytes
  pub read_on : (next : Option (List Asking)) (bytes : List ℕ) → TellsMore asked next (record { held = sunk; came = bytes } ∷ []) → IsTimely (Answered image) (t.came ++ bytes) (Some []) held before next
  read_on next bytes told = timely_on (Answered image) next sunk bytes (all_so t.serving) t.timely told

  -- they were answered
  pub turning_on : (next : Option (List Asking)) (c filled : Option (List ℕ)) (line2 : UnitLine) (new : State) (bytes : List ℕ) → TellsMore asked next (record { held = sunk; came = bytes } ∷ []) → Consumes unread c bytes → 0 < length bytes
      → IsServing image (t.came ++ bytes) line2.gathering line2.end held filled → IfSome image (Knows line2.end.side) → ReadsIfAny mid new false → IsTurning (turn + 1) image left c line2 held filled before next old new
  turning_on next c filled line2 new bytes told consumed some serving knows reads = record {
    came = t.came ++ bytes;
    serving = serving;
    timely = read_on next bytes told;
    consumed = Consumes-trans left unread c t.came bytes t.consumed consumed;
    turns = let had = t.turns in omega (arith, length-append t.came bytes);
    knows = knows;
    reads = any_then t.reads reads;
  }

  -- as the service tells it
  pub told_so : (next : Option (List Asking)) (c : Option (List ℕ)) (bytes : List ℕ) → TellsMore asked next (record { held = sunk; came = bytes } ∷ []) → Consumes left c (t.came ++ bytes) → AnswersInTime (AllAnswered image) left c held before next
  told_so next c bytes told consumed = timely_told (Answered image) left c (read_on next bytes told) consumed

  pub told_now : AnswersInTime (AllAnswered image) left unread held before asked
  told_now = timely_told (Answered image) left unread t.timely t.consumed

  -- the source ended, or failed, or so many reads were made
  pub served_done : (c : Option (List ℕ)) (bytes : List ℕ) → bytes ≡ [] → Consumes unread c bytes → ArePacketsServed (Ok tt) image left c held sunk
  served_done c bytes none consumed = record {
    came = t.came ++ bytes;
    consumed = Consumes-trans left unread c t.came bytes t.consumed consumed;
    sends = subst (λ (l : List ℕ). AllAnswered image l held sunk) (sym (append-nil t.came) ∙ ap (λ (l : List ℕ). t.came ++ l) (sym none)) (all_so t.serving);
  }

  pub served_broken : (c : Option (List ℕ)) → Keeps unread c → ArePacketsServed (Err ReadFault) image left c held sunk
  served_broken c keeps = record { came = t.came; consumed = Consumes-kept left unread c t.came t.consumed keeps; sends = all_so t.serving }

  pub served_long : MOST_TURNS ≤ turn → ArePacketsServed (Err TooLong) image left unread held sunk
  served_long many = record { came = t.came; consumed = t.consumed; sends = inl (all_so t.serving, let had = t.turns in omega arith) }

  -- it ended at a byte
  stops_so : (fault : ServeFault) (came : List ℕ) (filled : Option (List ℕ)) → (n : ℕ) × StopsAt fault image (take n came) held filled → PacketsSend (Err fault) image came held filled
  stops_so ReadFault came filled stops = absurd stops.1
  stops_so WriteFault came filled stops = stops
  stops_so Failed came filled stops = stops
  stops_so (BadUnit place) came filled stops = stops
  stops_so TooLong came filled stops = inr stops

  pub served_stopped : (r : Result (Unit {0}) ServeFault) (fault : ServeFault) (c filled : Option (List ℕ)) (bytes : List ℕ) → IsErrAnd r (λ v. v ≡ fault) → Consumes unread c bytes → (n : ℕ) × StopsAt fault image (take n (t.came ++ bytes)) held filled → ArePacketsServed r image left c held filled
  served_stopped r fault c filled bytes is consumed stops =
      subst (λ (q : Result (Unit {0}) ServeFault). ArePacketsServed q image left c held filled) (sym (err_is r fault is))
      (record { came = t.came ++ bytes; consumed = Consumes-trans left unread c t.came bytes t.consumed consumed; sends = stops_so fault (t.came ++ bytes) filled stops })

-- some bytes more, while the unit tells the same image
pub serving_then : (i j held : Option (List ℕ)) (came bytes part part2 : List ℕ) (end end2 : UnitEnd SessionView) (sunk filled : Option (List ℕ)) (r : Result (Unit {0}) ServeFault) → j ≡ i → IsServing i came part end held sunk
    → (IsServing j came part end held sunk → ServingAll r j came bytes part2 end2 held filled) → ServingAll r i came bytes part2 end2 held filled
serving_then i j held came bytes part part2 end end2 sunk filled r same first next =
    subst (λ (o : Option (List ℕ)). ServingAll r o came bytes part2 end2 held filled) same (next (subst (λ (o : Option (List ℕ)). IsServing o came part end held sunk) (sym same) first))
