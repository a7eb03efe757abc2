use Rattle.std.proofs.Common.{◌≡◌, ◌++◌, drop}
use Rattle.slot_bars.specs.Gaps.{prolonged}
use Rattle.slot_bars.proofs.gaps.prolonged.Given as goal

-- those so far with those that are left
abbrev pub invariant-loop-gap : goal.invariant-loop-gap
invariant-loop-gap l = l.longer.items ++ prolonged l.behind (drop l.gap-index l.gaps) ≡ prolonged 0 l.gaps
