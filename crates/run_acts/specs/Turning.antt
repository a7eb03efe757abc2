-- What seconds of one minute do to a run, by value (profile).
use Rattle.std.specs.Prelude.{◌≡◌, ◌⊎◌, ℕ, ◌+◌, ◌-◌, Bool, true, false, List, [], ◌∷◌, ◌++◌}
use Rattle.unit_model.specs.minute_model.declared.Minute.{Minute}
use Rattle.unit_model.specs.minute_model.Span.{Span, fed_many, decided_in}
use Rattle.minute_rules.specs.Kept.{CountsSpan}
use Rattle.run_crew.specs.Cabin.{crew_of}
use Rattle.run_events.specs.declared.watch.Ended.{Ended}
use Rattle.run_events.specs.Noting.{IsFed}
use Rattle.run_outcome.specs.Lines.{cut_at}
use Rattle.run_outcome.specs.declared.outcome.Outcome.{Outcome}
use Rattle.run_minutes.specs.declared.keeper.Moment.{Moment}
use Rattle.run_minutes.specs.Keeping.{with_lines}
use Rattle.run_minutes.specs.Minutes.{KeepingState, AreKept, AreKeptUpTo}
use Rattle.run_acts.specs.declared.run.Run.{Run}
use Rattle.run_acts.specs.Power.{cut_run, passed}

-- the last of n seconds, behind all actions
abbrev pub late_moment : (next n begun : ℕ) → Moment
late_moment next n begun = record { second = next + n - 1; begun = begun; late = true }

-- keeper, marks and breaks of a run
abbrev pub told_of : Run → Outcome → KeepingState
told_of run o = record { keeper = run.keeper; marks = o.marks; breaks = o.breaks }

-- what n seconds decide is kept, up to the first minute that fails; once all are, what has ended with the second before
-- is noted
pub record IsKeptInTurn (decided : List Minute) (n speed : ℕ) (at : Moment) (failed : Bool) (old new : Run)
    (before after : Outcome) : Type 0 where
  pub only : new ≡ record old { keeper = new.keeper; watch = new.watch }
  pub outcome : after ≡ record before { marks = after.marks; breaks = after.breaks }
  pub how : ((failed ≡ true) × AreKeptUpTo decided at true (told_of old before) (told_of new after)
      × (new.watch ≡ old.watch))
      ⊎ (AreKept at decided (told_of old before) (told_of new after)
      × ((ended : Ended) × IsFed old.watch new.watch old.next n speed (crew_of old.keeper.cabin) ended))

-- the run behind a turn: where it failed, power was lost in its last second
abbrev pub cut_where : (failed : Bool) → (second : ℕ) → Run → Run
cut_where false second run = run
cut_where true second run = cut_run second run

-- and the line of that cut
abbrev pub cut_breaks : (failed : Bool) → (second begun : ℕ) → Outcome → Outcome
cut_breaks false second begun o = o
cut_breaks true second begun o = record o { breaks = with_lines (cut_at second true begun ∷ []) o.breaks }

-- N SECONDS WITH POWER: they are fed, and what they decide is kept
pub record IsLitTurn (n speed begun : ℕ) (old new : Run) (before after : Outcome) : Type 0 where
  pub failed : Bool
  pub fed : Run
  pub between : Run
  pub told : Outcome
  pub only : fed ≡ record old { minutes = fed.minutes }
  pub minutes : (span : Span) → CountsSpan old.minutes span → CountsSpan fed.minutes (fed_many span speed n)
  pub decided : List Minute
  pub given : (span : Span) → CountsSpan old.minutes span
      → decided_in (fed_many span speed n) ≡ decided_in span ++ decided
  pub kept : IsKeptInTurn decided n speed (late_moment old.next n begun) failed fed between before told
  pub run : new ≡ cut_where failed (old.next + n - 1) between
  pub outcome : after ≡ cut_breaks failed (old.next + n - 1) begun told

-- N SECONDS
abbrev pub IsTurnOf : (lit : Bool) → (n speed begun : ℕ) → (old new : Run) → (before after : Outcome) → Type 0
IsTurnOf false n speed begun old new before after = (new ≡ passed n begun old) × (after ≡ before)
IsTurnOf true n speed begun old new before after = (between : Run) × IsLitTurn n speed begun old between before after
    × (new ≡ passed n begun between)
