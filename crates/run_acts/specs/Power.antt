-- Power lost, and power back (profile).
use Rattle.std.specs.Prelude.{◌≡◌, ℕ, ◌+◌, ◌-◌, ◌/◌, ◌%◌, ◌==◌, Bool, true, false, None, List, [], ◌∷◌}
use Rattle.unit_model.specs.minute_model.declared.Rule.{Rule}
use Rattle.unit_model.specs.minute_model.Span.{begin}
use Rattle.minute_rules.specs.Kept.{CountsSpan}
use Rattle.log_model.specs.declared.lines.Break.{Break}
use Rattle.run_crew.specs.declared.cabin.Cabin.{Cabin}
use Rattle.run_crew.specs.Cabin.{with_power_lost, with_minute_ended}
use Rattle.run_events.specs.Watching as watching
use Rattle.run_events.specs.speed_store.Feeding as minute_speeds
use Rattle.run_outcome.specs.Lines.{cut_at}
use Rattle.unit_minutes.specs.declared.notes.Notes.{Notes}
use Rattle.run_acts.specs.declared.run.Run.{Run}
use Rattle.run_acts.specs.declared.run.Power.{Power}
use Rattle.run_acts.specs.declared.run.Power.TheVariants.{Lit, Due, Lost}

-- THE UNIT HAS POWER now. (Whether it has it in the next second to which the trace gives power is `has_power`.)
abbrev pub is_lit : Power → Bool
is_lit Lit = true
is_lit Due = false
is_lit Lost = false

-- a second has power that the trace gives: where power was lost, it is back with a minute
abbrev pub has_power : Power → (next : ℕ) → Bool
has_power Lit next = true
has_power Due next = true
has_power Lost next = next % 60 == 0

-- a run with these slots and sessions
abbrev pub with_cabin : Cabin → Run → Run
with_cabin cabin run = record run { keeper = record run.keeper { cabin = cabin } }

-- the power was lost in a second
abbrev pub cut_run : (second : ℕ) → Run → Run
cut_run second run = record run {
  power = Lost;
  keeper = record run.keeper { cabin = with_power_lost second run.keeper.cabin };
}

-- at the last second before an `off` line it is lost, if there was any
abbrev pub darkened : (lit : Bool) → Run → Run
darkened true run = cut_run (run.next - 1) run
darkened false run = run

-- so many seconds without power
abbrev pub off_run : (seconds : ℕ) → Run → Run
off_run seconds run = record (darkened (is_lit run.power) run) { power = Due; next = run.next + seconds; begun = 0 }

-- the last second with power before an `off` line is a cut
abbrev pub off_cut : (lit : Bool) → (second begun : ℕ) → List Break
off_cut true second begun = cut_at second false begun ∷ []
off_cut false second begun = []

-- where a minute begins with the next second, the one before has ended
abbrev pub over_by : (begins : Bool) → Run → Run
over_by true run = with_cabin (with_minute_ended (run.next / 60 - 1) run.keeper.cabin) run
over_by false run = run

-- by the number of the next second
abbrev pub minute_over : Run → Run
minute_over run = over_by (run.next % 60 == 0) run

-- so many seconds are over, the last of which had so many actions
abbrev pub passed : (n begun : ℕ) → Run → Run
passed n begun run = record run { next = run.next + n; begun = begun }

-- A RUN THAT BEGINS with a second: its power is due, and nothing is noted or broken
pub record StartsAt (start : ℕ) (run : Run) : Type 0 where
  pub power : run.power ≡ Due
  pub next : run.next ≡ start
  pub begun : run.begun ≡ 0
  pub unfound : run.unfound ≡ 0
  pub noted : run.noted ≡ 0

-- A SPAN HAS BEGUN with the next second, of a unit with this journal, by this rule of minutes: nothing is fed or
-- watched yet.
pub record IsSpanBegun (rule : Rule) (old new : Run) (journal : Notes) : Type 0 where
  pub power : new.power ≡ Lit
  pub next : new.next ≡ old.next
  pub begun : new.begun ≡ old.begun
  pub unfound : new.unfound ≡ old.unfound
  pub noted : new.noted ≡ old.noted
  pub keeper : new.keeper ≡ record old.keeper { journal = journal; odometer = journal.odometer }
  pub minutes : CountsSpan new.minutes (begin rule old.next)
  pub watch : watching.WatchesSpan new.watch []
  pub speeds : (next : ℕ) → minute_speeds.KeepsSpeedsOf new.watch.speeds [] next
  pub newest : new.watch.newest ≡ None
  pub limit : (new.watch.over.limit ≡ old.keeper.memory.limit) × (new.watch.limit ≡ old.keeper.memory.limit)
