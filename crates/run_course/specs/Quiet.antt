-- Seconds of a run in which nothing happens: with power, without actions, and the log tells nothing of them (profile).
-- A recorder takes them at once, up to the minute's end.
use Rattle.std.specs.Prelude.{◌≡◌, ℕ, zero, suc, ◌+◌, ◌/◌, ◌%◌, ◌<◌, ◌≤◌, true, false, List, [], ◌∷◌, ◌++◌}
use Rattle.trace_model.specs.Trace.{TraceSecond, driven}
use Rattle.run_model.specs.declared.Device.{Device}
use Rattle.minute_model.specs.declared.Rule.{Rule}
use Rattle.minute_model.specs.Span.{fed_many}
use Rattle.log_model.specs.declared.lines.Mark.{Mark}
use Rattle.log_model.specs.Slots.{Slots}
use Rattle.log_model.specs.Course.{ToldSecond, Before, went, fresh}
use Rattle.history_model.specs.Minutes.{HistoryMinute}
use Rattle.history_model.specs.Presence.{Start}
use Rattle.history_model.specs.History.{decided_of}
use Rattle.history_model.specs.Growth.{as_span}
use Rattle.history_model.specs.Completeness.{IsComplete}
use Rattle.card_slots.specs.Kept.{Kept}
use Rattle.run_unit_course.specs.Followed.{Lit}
use Rattle.run_unit_course.specs.Legs.{Travel}
use Rattle.run_course.specs.Followed.{Progress, BookFollowsRun}
use Rattle.run_course.specs.Presence.{SlotsTell}
use Rattle.run_course.specs.Caused.{WellCaused}
use Rattle.run_course.specs.Travelled.{HasLegs}

-- a second with power in which nothing happens, with these slots
abbrev pub quiet_second : (number speed : ℕ) → Slots → ToldSecond
quiet_second number speed slots = record {
  second = record { number = number; speed = speed; picks = [] };
  given = true;
  lit = true;
  starts = false;
  cut = false;
  course = fresh false slots;
}

-- n such seconds one after another, from a number on, at one speed
abbrev pub quiet_seconds : ℕ → (number speed : ℕ) → Slots → List ToldSecond
quiet_seconds zero number speed slots = []
quiet_seconds (suc n) number speed slots = quiet_second number speed slots ∷ quiet_seconds n (number + 1) speed slots

-- the last of n seconds without actions had none; of no second it is as it was
abbrev pub begun_after : ℕ → ℕ → ℕ
begun_after zero begun = begun
begun_after (suc n) begun = 0

-- how far a run has gone behind n quiet seconds
abbrev pub quiet_on : (n speed : ℕ) → List ToldSecond → Slots → Progress → Progress
quiet_on n speed span slots p = record p {
  next = p.next + n;
  begun = begun_after n p.begun;
  supply = Lit (span ++ quiet_seconds n p.next speed slots);
}

-- HOW QUIET SECONDS GO: each as such a second, and the next one has to know what it had to before them.
abbrev pub QuietSecondsAreTold : Type 0
QuietSecondsAreTold = (rule : Rule) (start : Start) (from first : ℕ) (done : List TraceSecond) (p : Progress)
    → BookFollowsRun rule start from first done p →
    (t : ToldSecond) (span : List ToldSecond) → p.supply ≡ Lit (t ∷ span) → (n speed : ℕ) →
    let before : Before = (went p.log done).before in
    went p.log (done ++ driven n p.next speed [])
    ≡ record { told = (went p.log done).told ++ quiet_seconds n p.next speed before.slots; before = before }

-- FOR THE RULES OF MINUTES they are so many seconds at this speed, and within a minute they decide nothing.
abbrev pub RulesSeeQuietSeconds : Type 0
RulesSeeQuietSeconds = (rule : Rule) (start : Start) (from first : ℕ) (done : List TraceSecond) (p : Progress)
    → BookFollowsRun rule start from first done p →
    (t : ToldSecond) (span : List ToldSecond) → p.supply ≡ Lit (t ∷ span) → p.waiting ≡ []
    → (n speed : ℕ) (slots : Slots) →
    as_span rule ((t ∷ span) ++ quiet_seconds n p.next speed slots) ≡ fed_many (as_span rule (t ∷ span)) speed n

-- THE RUN IS FOLLOWED behind quiet seconds within a minute, and they decide nothing;
abbrev pub QuietSecondsGoOn : Type 0
QuietSecondsGoOn = (rule : Rule) (start : Start) (from first : ℕ) (done : List TraceSecond) (p : Progress)
    → BookFollowsRun rule start from first done p →
    (t : ToldSecond) (span : List ToldSecond) → p.supply ≡ Lit (t ∷ span) → p.waiting ≡ [] → (n speed : ℕ)
    → p.next % 60 + n < 60 →
    let q : Progress = quiet_on n speed (t ∷ span) (went p.log done).before.slots p in
    (decided_of rule ((t ∷ span) ++ quiet_seconds n p.next speed (went p.log done).before.slots)
    ≡ decided_of rule (t ∷ span))
    × BookFollowsRun rule start from first (done ++ driven n p.next speed []) q

-- what was travelled stays,
abbrev pub QuietSecondsStayTravelled : Type 0
QuietSecondsStayTravelled = (rule : Rule) (start : Start) (from first : ℕ) (done : List TraceSecond) (p : Progress)
    → BookFollowsRun rule start from first done p →
    (t : ToldSecond) (span : List ToldSecond) → p.supply ≡ Lit (t ∷ span) → p.waiting ≡ [] → (n speed : ℕ)
    → p.next % 60 + n < 60 →
    (g : Travel) → HasLegs rule first done p g →
    HasLegs rule first (done ++ driven n p.next speed []) (quiet_on n speed (t ∷ span) (went p.log done).before.slots p)
    g

-- each line of the log has its cause still,
abbrev pub QuietSecondsStayCaused : Type 0
QuietSecondsStayCaused = (rule : Rule) (start : Start) (from first : ℕ) (done : List TraceSecond) (p : Progress)
    → BookFollowsRun rule start from first done p →
    (t : ToldSecond) (span : List ToldSecond) → p.supply ≡ Lit (t ∷ span) → p.waiting ≡ [] → (n speed : ℕ)
    → p.next % 60 + n < 60 →
    (before now : Device → ℕ) → WellCaused before now done p →
    WellCaused before now (done ++ driven n p.next speed [])
    (quiet_on n speed (t ∷ span) (went p.log done).before.slots p)

-- and what is decided is acknowledged still.
abbrev pub QuietSecondsStayComplete : Type 0
QuietSecondsStayComplete = (rule : Rule) (start : Start) (from first : ℕ) (done : List TraceSecond) (p : Progress)
    → BookFollowsRun rule start from first done p →
    (t : ToldSecond) (span : List ToldSecond) → p.supply ≡ Lit (t ∷ span) → p.waiting ≡ [] → (n speed : ℕ)
    → p.next % 60 + n < 60 →
    (marks : List Mark) → IsComplete rule start p.log (went p.log done).told marks →
    IsComplete rule start p.log (went p.log (done ++ driven n p.next speed [])).told marks

-- WHO IS PRESENT is told as before them, in the same minute.
abbrev pub QuietSecondsTell : Type 0
QuietSecondsTell = (start : Start) (told : List ToldSecond) (past : List HistoryMinute) (number next from : ℕ)
    (slots : Slots) (k : Kept) (n speed : ℕ) →
    SlotsTell start told past [] number from slots k → number ≤ next → (next + n) / 60 ≡ number / 60 →
    SlotsTell start (told ++ quiet_seconds (suc n) next speed slots) past [] (next + n) from slots k
