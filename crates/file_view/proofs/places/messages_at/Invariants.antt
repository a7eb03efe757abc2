use Rattle.std.proofs.Common.{◌<◌, ◌≤◌, ◌-◌, length}
use Rattle.file_view.proofs.Placing.{AreUpTo}
use Rattle.file_view.proofs.places.messages_at.Given as goal

-- the messages before the place
abbrev pub invariant-loop-place : goal.invariant-loop-place
invariant-loop-place l = record {
  some : 0 < l.place;
  inside : l.place ≤ length l.b;
  front : AreUpTo l.b l.place l.all.items;
}

abbrev pub decreases-loop-place : goal.decreases-loop-place
decreases-loop-place l = length l.b - l.place
