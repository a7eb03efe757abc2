-- What loading a ring answers, and what it does to the medium.
use Rattle.std.specs.Prelude.{◌≡◌, ℕ, zero, suc, Bool, true, false, Result, Ok, Err}
use Rattle.tach_media.specs.Medium.{State, LeavesOnly, Unchanged, KeepsBroken, Reads}
use Rattle.gated_ring.specs.declared.fault.RingFault.{RingFault}
use Rattle.gated_ring.specs.declared.fault.RingFault.TheVariants.{Failed, BadPointer}

-- a fact of the pointer that was refused
abbrev pub IfBadPointer : RingFault → (ℕ → Type 0) → Type 0
IfBadPointer Failed P = Unit {0}
IfBadPointer (BadPointer v) P = P v

-- the answer is that the medium failed
abbrev pub has_failed : {T : Type 0} → Result T RingFault → Bool
has_failed (Ok x) = false
has_failed (Err Failed) = true
has_failed (Err (BadPointer v)) = false

-- no call was made
pub record MadeNoCall (old new : State) : Type 0 where
  pub same : new.image ≡ old.image
  pub leaves : LeavesOnly old new Unchanged
  pub clock : new.clock ≡ old.clock
  pub works : new.works ≡ old.works
  pub faults : new.faults ≡ old.faults
  pub breakdowns : new.breakdowns ≡ old.breakdowns
  pub tells : KeepsBroken old new

-- a pointer of this width was read; of no pointer no call was made, and none has failed
abbrev pub ReadsPointer : ℕ → State → State → Bool → Type 0
ReadsPointer zero old new failed = (failed ≡ false) × MadeNoCall old new
ReadsPointer (suc n) old new failed = Reads old new failed
