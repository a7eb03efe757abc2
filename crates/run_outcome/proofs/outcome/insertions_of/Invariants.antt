use Rattle.std.proofs.Common.{◌≡◌, ◌+◌, ◌≤◌, drop}
use Rattle.run_outcome.specs.Room.{insertions}
use Rattle.run_outcome.proofs.outcome.insertions_of.Given as goal

abbrev pub invariant-loop-i : goal.invariant-loop-i
invariant-loop-i l = record {
  most : l.count ≤ l.i;
  rest : l.count + insertions (drop l.i l.items) ≡ insertions l.items;
}
