-- What the keeping of minutes, and what has ended with a second, note on the unit (Annex IB, section III.12; the
-- moments: profile).
use Rattle.std.specs.Prelude.{◌≡◌, ◌⊎◌, ℕ, Bool, true, false, List}
use Rattle.tach_media.specs.Medium.{State}
use Rattle.unit_model.specs.minute_model.declared.Minute.{Minute}
use Rattle.run_crew.specs.Cabin.{crew_of}
use Rattle.run_events.specs.declared.watch.Ended.{Ended}
use Rattle.run_events.specs.Noting.{AreNoted, AreBeingNoted, IsFed}
use Rattle.run_outcome.specs.declared.outcome.Outcome.{Outcome}
use Rattle.run_minutes.specs.declared.keeper.Moment.{Moment}
use Rattle.run_minutes.specs.Minutes.{Reach, IsReach}
use Rattle.run_minutes.specs.Faults.{faults_to, TellsFaults, NotesFaults}
use Rattle.run_acts.specs.declared.run.Run.{Run}
use Rattle.run_acts.specs.Booked.{IsTurnReach}
use Rattle.run_acts.specs.Acting.{SettlingDecides}
use Rattle.run_acts.specs.Turning.{IsLitTurn, late_moment, told_of}

-- A SETTLING NOTES the faults of the cards that were torn out as its minutes were kept.
abbrev pub NotesSettling : Moment → (failed : Bool) → (old new : Run) → (before after : Outcome)
    → (unit unit_after : State) → Type 0
NotesSettling at failed old new before after unit unit_after = (decided : List Minute)
    × SettlingDecides old.minutes decided
    × (reach : Reach) × IsReach decided at failed (told_of old before) (told_of new after) reach
    × NotesFaults failed (faults_to old.keeper at reach (told_of old before)) unit unit_after

-- what has ended is noted; or the unit failed in that, and none of it is, or a part
abbrev pub EndsTo : (failed : Bool) → Ended → (y c : List ℕ) → Type 0
EndsTo false ended y c = AreNoted ended y c
EndsTo true ended y c = (c ≡ y) ⊎ AreBeingNoted ended y c

-- Behind the faults of a keeping that did not fail, what has ended with the second before is noted, with the cards that
-- sat there as the second began: so it is in each image that a stop may leave.
pub record NotesEnded (n speed : ℕ) (at : Moment) (failed : Bool) (reach : Reach) (old new : Run) (before : Outcome)
    (unit unit_after : State) : Type 0 where
  pub ended : Ended
  pub fed : IsFed old.watch new.watch old.next n speed (crew_of old.keeper.cabin) ended
  pub noted : (c : List ℕ) → unit_after.may_leave c
      → (x : List ℕ) × unit.may_leave x × (y : List ℕ)
      × TellsFaults (faults_to old.keeper at reach (told_of old before)) x y × EndsTo failed ended y c

-- N SECONDS NOTE the faults of their keeping, and then what has ended; or the unit failed in the keeping.
abbrev pub NotesKeeping : List Minute → (n speed : ℕ) → Moment → (failed : Bool) → (old new : Run)
    → (before after : Outcome) → (unit unit_after : State) → Type 0
NotesKeeping decided n speed at failed old new before after unit unit_after = (reach : Reach)
    × IsTurnReach decided at failed (told_of old before) (told_of new after) reach
    × (((failed ≡ true) × (new.watch ≡ old.watch)
    × NotesFaults true (faults_to old.keeper at reach (told_of old before)) unit unit_after)
    ⊎ NotesEnded n speed at failed reach old new before unit unit_after)

-- so it is of a turn with power, by the minutes that it decided
abbrev pub NotesTurn : (n speed begun : ℕ) → (old new : Run) → (before after : Outcome) → (unit unit_after : State)
    → Type 0
NotesTurn n speed begun old new before after unit unit_after = (turn : IsLitTurn n speed begun old new before after)
    × NotesKeeping turn.decided n speed (late_moment old.next n begun) turn.failed turn.fed turn.between before
    turn.told unit unit_after
