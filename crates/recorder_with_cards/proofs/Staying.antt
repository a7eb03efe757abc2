-- What no action of a second changes: which events the run watches, and what its unit was told of the vehicle.
use Rattle.std.proofs.Common.{◌≡◌, ◌∙◌, inl, inr, ⊎_elim, ℕ, Bool, true, false, Option, Some, None, List, refl, ap}
use Rattle.activity_codec.specs.declared.values.Slot.{Slot}
use Rattle.trace_model.specs.declared.Card.{Card}
use Rattle.trace_model.specs.declared.Action.{Action}
use Rattle.trace_model.specs.declared.Action.TheVariants.{Select, Insert, Withdraw, Tear, Place, Manual}
use Rattle.minute_rules.specs.minute_model.declared.Minute.{Minute}
use Rattle.run_minutes.specs.card_slots.Calls.{seat_in, card_in}
use Rattle.log_model.specs.declared.lines.Break.{Break}
use Rattle.run_outcome.specs.Lines.{Listed}
use Rattle.run_outcome.specs.declared.outcome.Outcome.{Outcome}
use Rattle.run_minutes.specs.declared.keeper.Keeper.{Keeper}
use Rattle.run_minutes.specs.declared.keeper.Moment.{Moment}
use Rattle.run_minutes.specs.Minutes.{KeepingState, AreKept, none, more, AreKeptUpTo}
use Rattle.run_acts.specs.declared.run.Run.{Run}
use Rattle.run_acts.specs.Acting.{IsSettled, IsClosedBehind, IsWithdrawn, IsPlaced, noted_run, pulled_run, told_of}
use Rattle.recorder_with_cards.specs.Accepting.{IsInserted}
use Rattle.recorder_with_cards.specs.Acting.{IsDone}

-- both are the same, and so are power and second
pub record StaysWatched (old new : Run) : Type 0 where
  pub watch : new.watch ≡ old.watch
  pub memory : new.keeper.memory ≡ old.keeper.memory
  pub power : new.power ≡ old.power
  pub next : new.next ≡ old.next

pub watched-then : (a b c : Run) → StaysWatched a b → StaysWatched b c → StaysWatched a c
watched-then a b c first later = record { watch = later.watch ∙ first.watch; memory = later.memory ∙ first.memory; power = later.power ∙ first.power; next = later.next ∙ first.next }

watched-is : (a b : Run) → b ≡ a → StaysWatched a b
watched-is a b is = record { watch = ap (λ (r : Run). r.watch) is; memory = ap (λ (r : Run). r.keeper.memory) is; power = ap (λ (r : Run). r.power) is; next = ap (λ (r : Run). r.next) is }

-- nothing but the minutes has changed
watched-only : (old new : Run) → new ≡ record old { minutes = new.minutes } → StaysWatched old new
watched-only old new only = record { watch = ap (λ (r : Run). r.watch) only; memory = ap (λ (r : Run). r.keeper.memory) only; power = ap (λ (r : Run). r.power) only; next = ap (λ (r : Run). r.next) only }

-- ---- minutes are kept

pub kept-memory : (at : Moment) (ms : List Minute) (t u : KeepingState) → AreKept at ms t u → u.keeper.memory ≡ t.keeper.memory
kept-memory at ms t u (none v) = refl
kept-memory at ms t u (more m front round v mid kept is) = kept-memory at front v mid kept

pub up-to-memory : (decided : List Minute) (at : Moment) (failed : Bool) (t u : KeepingState) → AreKeptUpTo decided at failed t u → u.keeper.memory ≡ t.keeper.memory
up-to-memory decided at false t u kept = kept-memory at decided t u kept
up-to-memory decided at true t u short =
    let before = kept-memory at short.front t short.between short.kept in
    ⊎_elim (λ still. ap (λ (x : KeepingState). x.keeper.memory) still ∙ before) (λ last. ap (λ (x : KeepingState). x.keeper.memory) last.2 ∙ before) short.last

pub settled-watched : (at : Moment) (failed : Bool) (old new : Run) (before after : Outcome) → IsSettled at failed old new before after → StaysWatched old new
settled-watched at failed old new before after is = record {
  watch = ap (λ (r : Run). r.watch) is.only;
  memory = up-to-memory is.decided at failed (told_of old before) (told_of new after) is.kept;
  power = ap (λ (r : Run). r.power) is.only;
  next = ap (λ (r : Run). r.next) is.only;
}

-- ---- of each action

closed-watched : (card : Card) (slot : Slot) (at : Moment) (old new : Run) (before after : Outcome) → IsClosedBehind card slot at old new before after → StaysWatched old new
closed-watched card slot at old new before after is =
    let settled = settled-watched at false _ is.between before is.told is.settled_first in
    record {
      watch = ap (λ (r : Run). r.watch) is.closed.run ∙ settled.watch;
      memory = ap (λ (r : Run). r.keeper.memory) is.closed.run ∙ settled.memory;
      power = ap (λ (r : Run). r.power) is.closed.run ∙ settled.power;
      next = ap (λ (r : Run). r.next) is.closed.run ∙ settled.next;
    }

withdrawn-watched : (card : Option Card) (slot : Slot) (at : Moment) (failed : Bool) (old new : Run) (before after : Outcome) → IsWithdrawn card slot at failed old new before after → StaysWatched old new
withdrawn-watched None slot at failed old new before after is = watched-is old new is.0
withdrawn-watched (Some card) slot at failed old new before after (inl cut) = let s = settled-watched at true _ new before after cut.1 in record { watch = s.watch; memory = s.memory; power = s.power; next = s.next }
withdrawn-watched (Some card) slot at failed old new before after (inr closed) = closed-watched card slot at old new before after closed

inserted-watched : (slot : Slot) (card : Card) (at : Moment) (speed : ℕ) (failed : Bool) (old new : Run) (before after : Outcome) → IsInserted slot card at speed failed old new before after → StaysWatched old new
inserted-watched slot card at speed failed old new before after (inl cut) = let s = settled-watched at true _ new before after cut.1 in record { watch = s.watch; memory = s.memory; power = s.power; next = s.next }
inserted-watched slot card at speed failed old new before after (inr behind) =
    let s = settled-watched at false _ behind.between before behind.told behind.settled_first in
    let a = behind.accepted in
    record {
      watch = ap (λ (r : Run). r.watch) a.only ∙ s.watch;
      memory = ap (λ (k : Keeper). k.memory) a.left.keeper ∙ s.memory;
      power = ap (λ (r : Run). r.power) a.only ∙ s.power;
      next = ap (λ (r : Run). r.next) a.only ∙ s.next;
    }

pulled-watched : (card : Option Card) (second : ℕ) (old : Run) → StaysWatched old (pulled_run card second old)
pulled-watched None second old = record { watch = refl; memory = refl; power = refl; next = refl }
pulled-watched (Some card) second old = record { watch = refl; memory = refl; power = refl; next = refl }

noted-watched : (fell : Bool) (card : Card) (second : ℕ) (old : Run) → StaysWatched old (noted_run fell card second old)
noted-watched false card second old = record { watch = refl; memory = refl; power = refl; next = refl }
noted-watched true card second old = record { watch = refl; memory = refl; power = refl; next = refl }

placed-watched : (card : Option Card) (slot : Slot) (at : Moment) (old new : Run) (breaks after : Listed Break) (fell : Bool) → IsPlaced card slot at old new breaks after fell → StaysWatched old new
placed-watched None slot at old new breaks after fell is = watched-is old new is.0
placed-watched (Some card) slot at old new breaks after fell is = watched-then old (noted_run fell card at.second old) new (noted-watched fell card at.second old) (watched-is (noted_run fell card at.second old) new is.run)

-- AN ACTION leaves both
pub done-watched : (action : Action) (at : Moment) (speed : ℕ) (failed : Bool) (old new : Run) (before after : Outcome) → IsDone action at speed failed old new before after → StaysWatched old new
done-watched (Select slot pick) at speed failed old new before after is = watched-only old new is.1.0
done-watched (Insert slot card) at speed failed old new before after is = inserted-watched slot card at speed failed old new before after is
done-watched (Withdraw slot) at speed failed old new before after is = withdrawn-watched (card_in (seat_in old.keeper.cabin.slots.seats slot)) slot at failed old new before after is
done-watched (Tear slot) at speed failed old new before after is =
    let pulled : Run = pulled_run (card_in (seat_in old.keeper.cabin.slots.seats slot)) at.second old in
    watched-then old pulled new (pulled-watched (card_in (seat_in old.keeper.cabin.slots.seats slot)) at.second old) (watched-is pulled new is.1)
done-watched (Place slot ending country region) at speed failed old new before after is =
    placed-watched (card_in (seat_in old.keeper.cabin.slots.seats slot)) slot at old new before.breaks after.breaks is.0 is.1
done-watched (Manual slot pick minute) at speed failed old new before after is =
    record { watch = ap (λ (r : Run). r.watch) is.1; memory = ap (λ (r : Run). r.keeper.memory) is.1; power = ap (λ (r : Run). r.power) is.1; next = ap (λ (r : Run). r.next) is.1 }
