use Rattle.std.proofs.Common.{length, ◌-◌}
use Rattle.file_extract.proofs.Fronts.{UpToMessage}
use Rattle.file_extract.proofs.unit.messages_end.Given as goal

-- the messages before the place
abbrev pub invariant-loop-place : goal.invariant-loop-place
invariant-loop-place l = UpToMessage l.b l.place

abbrev pub decreases-loop-place : goal.decreases-loop-place
decreases-loop-place l = length l.b - l.place
