-- Seconds of a run without power, at once (profile): after a failed call, up to the minute's end, and of an `off` line.
use Rattle.std.specs.Prelude.{◌≡◌, ℕ, suc, ◌+◌, ◌/◌, ◌%◌, ◌<◌, ◌≤◌, false, List, [], ◌∷◌, ◌++◌, length, map}
use Rattle.trace_model.specs.declared.Action.{Action}
use Rattle.trace_model.specs.Trace.{TraceSecond, driven, dark}
use Rattle.run_model.specs.declared.Device.{Device}
use Rattle.minute_model.specs.declared.Rule.{Rule}
use Rattle.log_model.specs.declared.lines.Mark.{Mark}
use Rattle.log_model.specs.declared.lines.Refused.{Refused}
use Rattle.log_model.specs.Log.{RunLog}
use Rattle.log_model.specs.Slots.{Slots}
use Rattle.log_model.specs.Course.{ToldSecond, Before, Went, went, dark_course, without_power}
use Rattle.log_model.specs.Causes.{refusals_at, refusal_told}
use Rattle.log_model.specs.Spans.{AreInOrder}
use Rattle.history_model.specs.Minutes.{HistoryMinute}
use Rattle.history_model.specs.Presence.{Start}
use Rattle.history_model.specs.Completeness.{IsComplete}
use Rattle.card_slots.specs.Kept.{Kept}
use Rattle.run_unit_course.specs.Followed.{Lost}
use Rattle.run_course.specs.Followed.{Progress, BookFollowsRun}
use Rattle.run_course.specs.Presence.{SlotsTell}
use Rattle.run_course.specs.Caused.{WellCaused}

-- a second without power as it is told, with these slots
abbrev pub dark_told : TraceSecond → Slots → ToldSecond
dark_told s slots = record {
  second = record { number = s.number; speed = s.speed; picks = [] };
  given = s.has_power;
  lit = false;
  starts = false;
  cut = false;
  course = dark_course s slots;
}

-- several such seconds, one after another
abbrev pub all_dark : List TraceSecond → Slots → List ToldSecond
all_dark ss slots = map (λ s. dark_told s slots) ss

-- HOW THEY GO, after a failed call,
abbrev pub LostSecondsAreTold : Type 0
LostSecondsAreTold = (rule : Rule) (start : Start) (from first : ℕ) (done : List TraceSecond) (p : Progress)
    → BookFollowsRun rule start from first done p →
    p.supply ≡ Lost → (n speed : ℕ) (actions : List Action) → 0 < p.next % 60 → p.next % 60 + n ≤ 60 →
    let before : Before = (went p.log done).before in
    went p.log (done ++ driven n p.next speed actions)
    ≡ record { told = (went p.log done).told ++ all_dark (driven n p.next speed actions) before.slots; before = before }

-- and where the trace gives no power.
abbrev pub OffSecondsAreTold : Type 0
OffSecondsAreTold = (log : RunLog) (done : List TraceSecond) (n next : ℕ) →
    let w : Went = went log done in
    let off : Went = went log (done ++ dark n next) in
    (off.told ≡ w.told ++ all_dark (dark n next) w.before.slots) × (off.before.slots ≡ w.before.slots)

-- EACH LINE HAS ITS CAUSE: what is refused is so for lack of power.
abbrev pub ADarkMinuteIsCaused : Type 0
ADarkMinuteIsCaused = (rule : Rule) (start : Start) (from first : ℕ) (done : List TraceSecond) (p : Progress)
    → BookFollowsRun rule start from first done p →
    p.supply ≡ Lost → (n speed : ℕ) (actions : List Action) (refused : List Refused) → 0 < p.next % 60
    → p.next % 60 + suc n ≤ 60 →
    map refusal_told refused ≡ refusals_at p.next (without_power 0 actions) →
    (before now : Device → ℕ) → WellCaused before now done p → (q : Progress)
    → q.log ≡ record p.log { refused = p.log.refused ++ refused } →
    WellCaused before now (done ++ driven (suc n) p.next speed actions) q

-- WHAT IS DECIDED is acknowledged as before, behind the seconds up to a minute's end after a failed call,
abbrev pub ADarkMinuteStaysComplete : Type 0
ADarkMinuteStaysComplete = (rule : Rule) (start : Start) (from first : ℕ) (done : List TraceSecond) (p : Progress)
    → BookFollowsRun rule start from first done p →
    p.supply ≡ Lost → (n speed : ℕ) (actions : List Action) (refused : List Refused) → 0 < p.next % 60
    → p.next % 60 + n ≤ 60 →
    (marks : List Mark) → IsComplete rule start p.log (went p.log done).told marks →
    let later : RunLog = record p.log { refused = refused } in
    IsComplete rule start later (went later (done ++ driven n p.next speed actions)).told marks

-- and behind those of an `off` line.
abbrev pub OffSecondsStayComplete : Type 0
OffSecondsStayComplete = (rule : Rule) (start : Start) (from : ℕ) (log : RunLog) (done : List TraceSecond) (n next : ℕ)
    (marks : List Mark) →
    AreInOrder from done → next ≡ from + length done → IsComplete rule start log (went log done).told marks →
    IsComplete rule start log (went log (done ++ dark n next)).told marks

-- WHO IS PRESENT, once no minute of before need be kept any more.
abbrev pub DarkSecondsTell : Type 0
DarkSecondsTell = (start : Start) (told : List ToldSecond) (past : List HistoryMinute) (number next from later : ℕ)
    (slots : Slots) (k : Kept) →
    SlotsTell start told past [] number from slots k → (s : TraceSecond) (ss : List TraceSecond) → number ≤ next
    → AreInOrder next (s ∷ ss) →
    from ≤ later → (next + length ss) / 60 ≤ later →
    SlotsTell start (told ++ all_dark (s ∷ ss) slots) past [] (next + length ss) later slots k
