-- What is said of the place in a fault.
use Rattle.std.specs.Prelude.{ℕ}
use Rattle.file_view.specs.declared.fault.ViewFault.{ViewFault}
use Rattle.file_view.specs.declared.fault.ViewFault.TheVariants.{BadFile, Memory}

-- the place of the fault where the bytes are no file; nothing is said where memory ran out
abbrev pub IfBadFile : ViewFault → (ℕ → Type 0) → Type 0
IfBadFile (BadFile place) P = P place
IfBadFile Memory P = Unit {0}
