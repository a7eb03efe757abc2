-- Why the detailed speed of a unit was not loaded.
use Rattle.std.specs.Prelude.{ℕ, Bool, true, false, Result, Ok, Err}
use Rattle.gated_ring.specs.declared.fault.RingFault.{RingFault}
use Rattle.gated_ring.specs.declared.fault.RingFault.TheVariants.{Failed as RingFailed, BadPointer as RingBad}
use Rattle.speed_store.specs.declared.fault.SpeedFault.{SpeedFault}
use Rattle.speed_store.specs.declared.fault.SpeedFault.TheVariants.{Failed, BadPointer}

-- a fault of the ring as one of the blocks
abbrev pub of_ring : RingFault → SpeedFault
of_ring RingFailed = Failed
of_ring (RingBad v) = BadPointer v

-- a fact of the pointer that was refused
abbrev pub IfBadPointer : SpeedFault → (ℕ → Type 0) → Type 0
IfBadPointer Failed P = Unit {0}
IfBadPointer (BadPointer v) P = P v

-- the answer is that the medium failed
abbrev pub has_failed : {T : Type 0} → Result T SpeedFault → Bool
has_failed (Ok x) = false
has_failed (Err Failed) = true
has_failed (Err (BadPointer v)) = false
