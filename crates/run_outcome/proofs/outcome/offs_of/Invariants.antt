use Rattle.std.proofs.Common.{◌≡◌, ◌+◌, ◌≤◌, drop}
use Rattle.run_outcome.specs.Room.{offs}
use Rattle.run_outcome.proofs.outcome.offs_of.Given as goal

abbrev pub invariant-loop-i : goal.invariant-loop-i
invariant-loop-i l = record {
  most : l.count ≤ l.i;
  rest : l.count + offs (drop l.i l.items) ≡ offs l.items;
}
