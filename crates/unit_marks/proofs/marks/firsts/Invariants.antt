use Rattle.std.proofs.Common.{◌≡◌, ◌++◌, drop}
use Rattle.unit_marks.specs.Sorted.{firsts_from}
use Rattle.unit_marks.proofs.marks.firsts.Given as goal

-- those so far with those that are left
abbrev pub invariant-loop-midnight : goal.invariant-loop-midnight
invariant-loop-midnight l = l.days.items ++ firsts_from l.least (drop l.midnight-index l.told) ≡ firsts_from 0 l.told
