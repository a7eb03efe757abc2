use Rattle.std.proofs.Common.{◌≡◌, ◌++◌, map, take, drop}
use Rattle.card_match.specs.Cases.{with_use}
use Rattle.card_match.proofs.cases.tell_use.Given as goal

-- the cases so far
abbrev pub invariant-loop-i : goal.invariant-loop-i
invariant-loop-i l = l.cases ≡ map (with_use l.fn.u) (take l.i l.initial.cases) ++ drop l.i l.initial.cases
