use Rattle.std.proofs.Common.{◌≡◌, ◌++◌, length}
use Rattle.unit_marks.specs.Marks.{gains_of}
use Rattle.unit_marks.proofs.marks.gains_of.Given as goal

-- what was found with what those that are left tell
abbrev pub invariant-midnights : goal.invariant-midnights
invariant-midnights l = l.distances.items ++ gains_of l.rest ≡ gains_of l.fn.midnights

abbrev pub decreases-midnights : goal.decreases-midnights
decreases-midnights l = length l.rest
