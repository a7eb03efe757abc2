use Rattle.std.proofs.Common.{◌≡◌, ◌++◌, List, ℕ, map, take}
use Rattle.unit_marks.specs.Entries.{BeginWith, mark_of}
use Rattle.unit_marks.proofs.entries.add_entries.Given as goal

-- the marks of the entries so far
abbrev pub invariant-loop-i : goal.invariant-loop-i
invariant-loop-i l = (entries : List (List ℕ)) → BeginWith 1 l.size entries l.bytes → l.marks.items ≡ l.initial.marks.items ++ map (mark_of l.kind) (take l.i entries)
