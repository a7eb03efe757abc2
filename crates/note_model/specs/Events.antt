-- When the events and faults of a run are noted on the unit, and which sessions of its cards were found open (profile).
use Rattle.std.specs.Prelude.{◌≡◌, ℕ, ◌+◌, ◌||◌, true, List, Contains, nat_eq, if◌then◌else◌}
use Rattle.event_model.specs.trace_model.declared.Card.{Card}
use Rattle.history_model.specs.log_model.declared.lines.Verdict.{Verdict}
use Rattle.history_model.specs.log_model.Log.{is_accepting}
use Rattle.history_model.specs.log_model.Course.{ToldSecond, Visit}
use Rattle.event_model.specs.declared.kinds.TheConstants.{TIME_OVERLAP, DRIVING_WITHOUT_CARD, OVER_SPEEDING}
use Rattle.event_model.specs.Events.{Event}

-- the second in which an event is noted: a run of seconds in the one after its last, a card of a later time in the one
-- in which it is judged, and each other in the second in which it ends
abbrev pub noting_second : Event → ℕ
noting_second e =
    if nat_eq e.kind OVER_SPEEDING || nat_eq e.kind DRIVING_WITHOUT_CARD then e.end + 1
    else (if nat_eq e.kind TIME_OVERLAP then e.begin else e.end)

-- where a card was accepted in one of these seconds, some image of it told this session time then
abbrev pub AreSessions : (images : Card → List ℕ → Type 0) → (session_time : List ℕ → ℕ) → List ToldSecond
    → (ℕ → Visit → ℕ) → Type 0
AreSessions images session_time told sessions =
    (t : ToldSecond) (f : Visit × Verdict) → Contains told t → Contains t.course.found f → is_accepting f.1 ≡ true →
    (x : List ℕ) × images f.0.card x × (session_time x ≡ sessions t.second.number f.0)
