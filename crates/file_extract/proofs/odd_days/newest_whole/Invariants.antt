use Rattle.std.proofs.Common.{ℕ, ◌<◌}
use Rattle.file_extract.specs.Judged.{IsWhole}
use Rattle.file_extract.specs.OddDays.{from_to}
use Rattle.file_extract.proofs.odd_days.newest_whole.Given as goal

-- none so far is whole
abbrev pub invariant-loop-i : goal.invariant-loop-i
invariant-loop-i l = (k : ℕ) → k < l.i → IsWhole (from_to l.at l.places k k l.b) → ⊥
