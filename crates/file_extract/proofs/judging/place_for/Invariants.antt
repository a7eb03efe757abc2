use Rattle.std.proofs.Common.{◌≡◌, drop}
use Rattle.file_extract.specs.Judged.{place_for}
use Rattle.file_extract.proofs.judging.place_for.Given as goal

-- those to come have it
abbrev pub invariant-loop-entry : goal.invariant-loop-entry
invariant-loop-entry l = place_for (drop l.entry-index l.passed) l.left l.end ≡ place_for l.passed l.at l.end
