-- The events that a second notes, and what is carried of them from second to second (profile).
use Rattle.std.specs.Prelude.{◌≡◌, ℕ, Some, None, nat_lt, List, [], ◌∷◌, ◌++◌, length, flat_map, if◌then◌else◌}
use Rattle.trace_model.specs.declared.Card.{Card}
use Rattle.trace_model.specs.Trace.{TraceSecond}
use Rattle.tach_media.specs.Medium.{State}
use Rattle.log_model.specs.declared.lines.Verdict.{Verdict}
use Rattle.log_model.specs.declared.lines.Verdict.TheVariants.{Accepted, NotValid, TimeOverlap}
use Rattle.activity_codec.specs.declared.values.Slot.{Slot}
use Rattle.log_model.specs.Log.{RunLog, Phase, cut_in, is_torn_in, found_in}
use Rattle.log_model.specs.Course.{Visit}
use Rattle.event_model.specs.declared.kinds.TheConstants.{CARD_NOT_VALID, TIME_OVERLAP, INSERTION_WHILE_DRIVING}
use Rattle.event_model.specs.declared.kinds.TheConstants.{SESSION_NOT_CLOSED}
use Rattle.event_model.specs.Events.{Event, Seen, Tearing, AreTorn, number_of, noted_with, crew_judged, seen_of}
use Rattle.event_model.specs.Events.{events_of}
use Rattle.run_events.specs.Shown.{HasNoted}
use Rattle.run_events.specs.Seconds.{span_before, bares_by, overs_by, gap_by, faults_by}

-- what a judged card brings, in the order in which it is noted: that the vehicle moves comes before that its session
-- was not closed
abbrev pub judged_notes : (session : ℕ) → Tearing → Seen → Visit → Verdict → List Event
judged_notes session t x v (NotValid fid place) = noted_with CARD_NOT_VALID (number_of x) (number_of x)
    (crew_judged t x v None) ∷ []
judged_notes session t x v (TimeOverlap stored now) = noted_with TIME_OVERLAP (number_of x) stored
    (crew_judged t x v None) ∷ []
judged_notes session t x v (Accepted replayed) =
    (if nat_lt 0 x.told.second.speed
    then noted_with INSERTION_WHILE_DRIVING (number_of x) (number_of x) (crew_judged t x v (Some v.card)) ∷ []
    else [])
    ++ (if nat_lt 0 session then noted_with SESSION_NOT_CLOSED session (number_of x) (crew_judged t x v (Some v.card))
    ∷ [] else [])

-- ALL THAT A SECOND NOTES, each type in its order: of its judged cards, the interruption before it, the faults of its
-- torn cards, and what has ended with the second before
abbrev pub second_notes : (limit : ℕ) → (sessions : ℕ → Visit → ℕ) → Tearing → RunLog → List (List Seen) → Seen
    → List Event
second_notes limit sessions t log spans x =
    flat_map (λ f. judged_notes (sessions (number_of x) f.0) t x f.0 f.1) x.told.course.found
    ++ (gap_by t log spans x
    ++ (faults_by t log x
    ++ ((if x.told.lit then bares_by (span_before spans x) (x ∷ []) else [])
    ++ (if x.told.lit then overs_by limit (span_before spans x) (x ∷ []) else []))))

-- WHAT IS CARRIED of the events behind these seconds, by a choice of what no log tells of them: every image shows them
pub record HasEvents (number : Card → List ℕ) (start : List ℕ) (limit : ℕ) (log : RunLog) (done : List TraceSecond)
    (unit : State) (t : Tearing) (sessions : ℕ → Visit → ℕ) : Type 0 where
  pub torn : AreTorn t (seen_of log done)
  pub noted : HasNoted number start log (λ kind. events_of kind limit sessions t log done) unit

-- A SECOND WITH POWER TURNS OUT TO BE A CUT'S, behind all of its actions, as one log tells and one before it does not.
pub record IsCutOff (log later : RunLog) (s : TraceSecond) : Type 0 where
  pub uncut : cut_in log s.number ≡ None
  pub cut : cut_in later s.number ≡ Some (length s.actions)
  pub torn : (p : Phase) (slot : Slot) → is_torn_in later s.number p slot ≡ is_torn_in log s.number p slot
  pub found : (p : Phase) (slot : Slot) → found_in later s.number p slot ≡ found_in log s.number p slot
