use Rattle.std.proofs.Common.{drop}
use Rattle.tacho.specs.Alone.{IsForUnit}
use Rattle.tacho.proofs.alone.is_for_unit.Given as goal

abbrev pub invariant-loop-i : goal.invariant-loop-i
invariant-loop-i l = IsForUnit (drop l.i l.items) → IsForUnit l.items
