use Rattle.std.proofs.Common.{ℕ, ◌≤◌, ◌<◌, ◌-◌, length}
use Rattle.file_extract.specs.Judged.{IsWhole}
use Rattle.file_extract.specs.OddDays.{from_to}
use Rattle.file_extract.proofs.odd_days.oldest_whole.Given as goal

-- the days so far are whole together
abbrev pub invariant-loop-oldest : goal.invariant-loop-oldest
invariant-loop-oldest l = record {
  behind : l.newest ≤ l.oldest;
  inside : l.oldest < length l.places;
  whole : (k : ℕ) → l.newest ≤ k → k ≤ l.oldest → IsWhole (from_to l.at l.places k l.newest l.b);
}

abbrev pub decreases-loop-oldest : goal.decreases-loop-oldest
decreases-loop-oldest l = length l.places - l.oldest
