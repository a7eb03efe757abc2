-- What a turn brings of detailed speed.
use Rattle.std.proofs.Common.{◌≡◌, ℕ, ◌+◌, ◌%◌, ◌<◌, ◌≤◌, Bool, true, false, is_some, sym, subst}
use Rattle.std.specs.Prelude.{not}
use Rattle.tach_media.specs.Medium.{State}
use Rattle.minute_rules.specs.Kept.{Kept as Minutes}
use Rattle.run_events.specs.speed_store.Feeding.{block_at}
use Rattle.run_events.proofs.speed_store.Feeding.{given-at, time-at}
use Rattle.run_crew.specs.declared.cards.Crew.{Crew}
use Rattle.run_events.specs.Blocks.{IsWatchedOn}
use Rattle.run_events.specs.run_speeds.Speeds.{LeavesSpeeds}
use Rattle.run_events.proofs.run_speeds.Blocks.{carries-behind, carries-unsure}
use Rattle.run_acts.specs.declared.run.Run.{Run}
use Rattle.run_acts.specs.declared.run.Power.{Power}
use Rattle.run_acts.specs.declared.run.Power.TheVariants.{Lit}
use Rattle.run_acts.specs.Power.{is_lit, cut_run}
use Rattle.run_acts.specs.Speeds.{BringsBlock}

-- the keeping failed: nothing is watched, and no block is added
pub brings-kept : (n speed : ℕ) (old new : Run) (U V : State) → 0 < n → old.next % 60 + n ≤ 60 → LeavesSpeeds U V → BringsBlock n speed true old new U V
brings-kept n speed old new U V some le leaves = record {
  block = block_at old.watch.speeds old.next n speed;
  given = λ seconds stands. given-at n old.watch.speeds seconds old.next speed some le stands;
  last = time-at n old.watch.speeds old.next speed le;
  stands = λ fine. absurd (cc);
  carries = carries-unsure U V (block_at old.watch.speeds old.next n speed) leaves;
}

-- it did not, and the seconds were watched behind it
pub brings-watched : (n speed : ℕ) (failed : Bool) (old new : Run) (crew : Crew) (U V W : State) → LeavesSpeeds U V → is_some V.image ≡ is_some U.image → IsWatchedOn failed old.watch new.watch old.next n speed crew V W → BringsBlock n speed failed old new U W
brings-watched n speed failed old new crew U V W leaves tells watched = record {
  block = watched.block;
  given = watched.minute_fed.blocks;
  last = watched.last;
  stands = λ fine. watched.minute_fed.stands;
  carries = carries-behind U V W watched.block failed leaves tells watched.speeds;
}

-- behind that the power was lost, or goes on
pub brings-cut : (n speed second : ℕ) (old : Run) (minutes : Minutes) (kept new : Run) (U V : State) → new ≡ cut_run second kept → BringsBlock n speed true (record old { minutes = minutes }) kept U V →
    BringsBlock n speed (not (is_lit new.power)) old new U V
brings-cut n speed second old minutes kept new U V is brings = subst (λ (r : Run). BringsBlock n speed (not (is_lit r.power)) old r U V) (sym is)
    (record { block = brings.block; given = brings.given; last = brings.last; stands = λ fine. absurd (cc); carries = brings.carries })

pub brings-on : (n speed : ℕ) (old : Run) (minutes : Minutes) (kept : Run) (U V : State) → kept.power ≡ Lit → BringsBlock n speed false (record old { minutes = minutes }) kept U V → BringsBlock n speed (not (is_lit kept.power)) old kept U V
brings-on n speed old minutes kept U V lit brings = subst (λ (p : Power). BringsBlock n speed (not (is_lit p)) old kept U V) (sym lit)
    (record { block = brings.block; given = brings.given; last = brings.last; stands = brings.stands; carries = brings.carries })
