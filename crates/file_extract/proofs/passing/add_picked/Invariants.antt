use Rattle.std.proofs.Common.{◌≡◌, ◌++◌, filter, take}
use Rattle.file_extract.specs.Passing.{picks_at}
use Rattle.file_extract.proofs.passing.add_picked.Given as goal

-- those picked so far
abbrev pub invariant-loop-entry : goal.invariant-loop-entry
invariant-loop-entry l = l.passed.items ≡ l.fn.passed.items ++ filter (picks_at l.pick) (take l.entry-index l.entries)
