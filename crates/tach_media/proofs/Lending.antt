-- A run of calls through a reference.
use Rattle.std.specs.Borrow.{GName}
use Rattle.std.proofs.Common.{ℕ, Bool, List, ◌∷◌, ap}
use Rattle.tach_media.specs.Medium.{State, Layer, Reference, LeavesOnly, Reads, HasCause, lent}
use Rattle.card_layout.specs.Outcomes.{Effect, nothing, gives, puts}
use Rattle.tach_media.specs.Chip.{Does}

module _ (name : GName) {old new : State} where
  pub lent_leaves : {R : List ℕ → List ℕ → Type 0} → LeavesOnly old new R → LeavesOnly (lent name old) (lent name new) R
  lent_leaves run = record { size = run.size; behind = run.behind; writable = run.writable; layers = ap (λ (l : List Layer). Reference name ∷ l) run.layers; tells = run.tells; later = run.later; since = run.since; now = run.now; keeps = run.keeps }

  pub lent_cause : {failed : Bool} → HasCause old new failed → HasCause (lent name old) (lent name new) failed
  lent_cause cause = record { works = cause.works; broken = cause.broken; faults = cause.faults; fault = cause.fault; breakdowns = cause.breakdowns; breaks = cause.breaks; unbroken = cause.unbroken; already = cause.already; once = cause.once; tells = record { later = cause.tells.later; told = cause.tells.told } }

  pub lent_reads : {failed : Bool} → Reads old new failed → Reads (lent name old) (lent name new) failed
  lent_reads reads = record { same = reads.same; leaves = lent_leaves reads.leaves; clock = reads.clock; cause = lent_cause reads.cause }

-- what a command does, where the card is reached through a reference
pub lent_does : (name : GName) (effect : Effect) (old new : State) (failed : Bool) → Does effect old new failed → Does effect (lent name old) (lent name new) failed
lent_does name nothing old new failed does = lent_reads name does
lent_does name (gives file offset len) old new failed does = lent_reads name does
lent_does name (puts place bytes) old new failed does = record { written = does.written; leaves = lent_leaves name does.leaves; settled = does.settled; clock = does.clock; few = does.few; cause = lent_cause name does.cause }
