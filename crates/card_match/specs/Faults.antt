-- What is said of the place in a fault.
use Rattle.std.specs.Prelude.{ℕ}
use Rattle.card_match.specs.declared.files.SourceFault.{SourceFault}
use Rattle.card_match.specs.declared.files.SourceFault.TheVariants.{BadFile, Memory}

-- the place of the fault where the source is of another form; nothing is said where memory ran out
abbrev pub IfBadSource : SourceFault → (ℕ → Type 0) → Type 0
IfBadSource (BadFile place) P = P place
IfBadSource Memory P = Unit {0}
