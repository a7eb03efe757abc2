use Rattle.std.proofs.Common.{◌≡◌, ℕ, List, drop}
use Rattle.file_extract.specs.Cards.{are_sizes_late}
use Rattle.file_extract.specs.Reading.{told}
use Rattle.file_extract.proofs.passing.are_sizes_late.Given as goal

-- those to come decide
abbrev pub invariant-loop-entry : goal.invariant-loop-entry
invariant-loop-entry l = (bytes : List ℕ) → are_sizes_late (told bytes (drop l.entry-index l.entries)) ≡ are_sizes_late (told bytes l.entries)
