use Rattle.std.proofs.Common.{◌≡◌, ◌++◌, take}
use Rattle.day_reports.specs.Hands.{hand_marks}
use Rattle.day_reports.proofs.hands.add_hands.Given as goal

-- the marks so far
abbrev pub invariant-loop-entry : goal.invariant-loop-entry
invariant-loop-entry l = l.marks.items ≡ l.initial.marks.items ++ hand_marks (take l.entry-index l.entries)
