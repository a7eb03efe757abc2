-- What the keeping of decided minutes does within a run: in a settling, and in a turn (profile).
use Rattle.std.specs.Prelude.{◌≡◌, ℕ, ◌+◌, ◌*◌, ◌%◌, ◌<◌, ◌≤◌, ◌^◌, Bool, false, Option, List, All, length}
use Rattle.trace_model.specs.declared.Card.{Card}
use Rattle.tach_media.specs.Medium.{State}
use Rattle.card_files.specs.card_layout.declared.command.CardState.{CardState}
use Rattle.unit_model.specs.minute_model.declared.Minute.{Minute}
use Rattle.device_calls.specs.safety_model.Safe.{Devices}
use Rattle.run_crew.specs.Cabin.{CabinIsSound}
use Rattle.run_events.specs.Watching.{Watches}
use Rattle.run_events.specs.Blocks.{KnowsNewest}
use Rattle.run_outcome.specs.declared.outcome.Outcome.{Outcome}
use Rattle.run_minutes.specs.declared.keeper.Moment.{Moment}
use Rattle.run_minutes.specs.Minutes.{Reach, IsReach, kept_after}
use Rattle.run_minutes.specs.Decided.{BooksAll}
use Rattle.run_minutes.specs.Faults.{faults_to, NotesFaults}
use Rattle.run_minutes.specs.Stand.{Stand, standing}
use Rattle.run_acts.specs.declared.run.Run.{Run}
use Rattle.run_acts.specs.Acting.{SettlingDecides}
use Rattle.run_acts.specs.Settling.{RecordsSettling}
use Rattle.run_acts.specs.Turning.{IsKeptInTurn, told_of}
use Rattle.run_acts.specs.Booked.{IsTurnReach, BooksTurn}
use Rattle.run_acts.specs.Faults.{NotesKeeping}
use Rattle.run_acts.specs.Speeds.{BringsBlock}
use Rattle.run_acts.specs.Evented.{EventsSettling}
use Rattle.run_acts.specs.RunCards.{CardsSettling, PlacesSettling}
use Rattle.run_acts.specs.Stood.{StandsSettling}

-- HOW A RUN STANDS: its keeper, its lines and its devices
abbrev pub acting : Run → Outcome → (unit card_a card_b : State) → (chip_a chip_b : CardState) → Stand
acting run out unit card_a card_b chip_a chip_b = standing run.keeper out.marks out.breaks unit card_a card_b chip_a
    chip_b

-- ---- a settling

-- THE MINUTES THAT A SETTLING DECIDES were to be kept, and it came so far: so they are booked, their faults noted, and
-- what a run promises goes on
pub record KeepsSettled (at : Moment) (failed : Bool) (old new : Run) (before after : Outcome) (d e : Devices) : Type
    0 where
  pub decided : List Minute
  pub given : SettlingDecides old.minutes decided
  pub reach : Reach
  pub is : IsReach decided at failed (told_of old before) (told_of new after) reach
  pub books : BooksAll decided failed reach (told_of old before) (told_of new after) d e
  pub noted : NotesFaults failed (faults_to old.keeper at reach (told_of old before)) d.unit e.unit
  pub recorded : RecordsSettling decided at failed old new before after d e
  pub evented : EventsSettling decided at failed old new before after d e
  pub cards : CardsSettling decided at old new before d e
  pub places : PlacesSettling decided at old new before d e
  pub stands : StandsSettling decided at old new before d e

-- ---- a turn

-- SECONDS OF ONE MINUTE MAY BE WATCHED, as far as the second before them was
pub record MayWatch (n : ℕ) (run : Run) (unit : State) : Type 0 where
  pub some : 0 < n
  pub low : 60 ≤ run.next
  pub within : run.next % 60 + n ≤ 60
  pub fits : run.next + n ≤ 2 ^ 32
  pub limit : run.watch.limit ≡ run.watch.over.limit
  pub watches : Watches run.watch run.next
  pub newest : KnowsNewest run.watch.newest unit

-- WHAT THEY HAVE DECIDED WAS TO BE KEPT, and then what had ended was to be noted; it came so far
pub record KeepsTurn (decided : List Minute) (n speed : ℕ) (at : Moment) (failed : Bool) (old new : Run)
    (before after : Outcome) (d e : Devices) : Type 0 where
  pub kept : IsKeptInTurn decided n speed at failed old new before after
  pub reach : Reach
  pub is : IsTurnReach decided at failed (told_of old before) (told_of new after) reach
  pub books : BooksTurn decided failed reach (told_of old before) (told_of new after) d e
  pub noted : NotesKeeping decided n speed at failed old new before after d.unit e.unit
  pub block : BringsBlock n speed failed old new d.unit e.unit
  pub last : failed ≡ false → new.keeper.journal.kept ≡ kept_after old.keeper.journal.kept decided
  pub marks : length after.marks.items ≤ length before.marks.items + 3 * length decided
  pub stands : (from : ℕ) (leaving : Option Card) → All (λ m. from ≤ m.minute) decided
      → CabinIsSound from leaving old.keeper.cabin
      → (next : ℕ) → from ≤ next → kept_after old.keeper.journal.kept decided < next
      → CabinIsSound next leaving new.keeper.cabin
  pub watches : failed ≡ false → Watches new.watch (old.next + n)
  pub limit : failed ≡ false → new.watch.limit ≡ new.watch.over.limit
  pub newest : failed ≡ false → KnowsNewest new.watch.newest e.unit
