use Rattle.std.proofs.Common.{◌≡◌, ◌+◌, List, ◌++◌, length}
use Rattle.std.specs.Prelude.{map}
use Rattle.minute_rules.specs.declared.counted.Counted.{Counted}
use Rattle.minute_rules.specs.Counted.{closed}
use Rattle.minute_rules.proofs.counted.close_all.Given as goal

abbrev pub invariant-loop-i : goal.invariant-loop-i
invariant-loop-i g l =
    (front : List Counted) × (back : List Counted) × (l.initial.minutes ≡ front ++ back) × (length front ≡ l.i) × (l.minutes ≡ map (closed l.act) front ++ back) × (l.steps ≡ l.initial.steps + l.i)
