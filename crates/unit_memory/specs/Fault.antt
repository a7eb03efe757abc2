-- Why the memory of a unit is not read.
use Rattle.std.specs.Prelude.{ℕ, Bool, true, false, Result, Ok, Err}
use Rattle.unit_memory.specs.declared.fault.UnitFault.{UnitFault}
use Rattle.unit_memory.specs.declared.fault.UnitFault.TheVariants.{Failed, BadUnit}

-- a fact of the place of the field that fails
abbrev pub IfBadUnit : UnitFault → (ℕ → Type 0) → Type 0
IfBadUnit Failed P = Unit {0}
IfBadUnit (BadUnit p) P = P p

-- the answer is that the medium failed
abbrev pub has_failed : {T : Type 0} → Result T UnitFault → Bool
has_failed (Ok x) = false
has_failed (Err Failed) = true
has_failed (Err (BadUnit p)) = false
