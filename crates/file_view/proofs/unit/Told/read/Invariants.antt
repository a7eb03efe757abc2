use Rattle.std.proofs.Common.{◌≤◌, ◌-◌, length}
use Rattle.file_view.proofs.UnitFronts.{UnitFront}
use Rattle.file_view.proofs.unit.Told.read.Given as goal

-- the messages before the place, and what was told by them
abbrev pub invariant-loop-place : goal.invariant-loop-place
invariant-loop-place l = record {
  inside : l.place ≤ length l.b;
  front : UnitFront l.b l.place l.told;
}

abbrev pub decreases-loop-place : goal.decreases-loop-place
decreases-loop-place l = length l.b - l.place
