use Rattle.std.proofs.Common.{length, ◌-◌}
use Rattle.file_extract.proofs.Downloads.{UpTo}
use Rattle.file_extract.proofs.entries.entries_in.Given as goal

-- the entries before the place
abbrev pub invariant-loop-place : goal.invariant-loop-place
invariant-loop-place l = UpTo l.b l.place l.entries.items

abbrev pub decreases-loop-place : goal.decreases-loop-place
decreases-loop-place l = length l.b - l.place
