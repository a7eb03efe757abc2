use Rattle.std.proofs.Common.{◌≡◌, ◌++◌, take}
use Rattle.day_chart.specs.Marks.{marks_text}
use Rattle.day_chart.proofs.mark.write_marks.Given as goal

-- the marks so far
abbrev pub invariant-loop-mark : goal.invariant-loop-mark
invariant-loop-mark l = l.text.items ≡ l.initial.text.items ++ marks_text l.date l.day (take l.mark-index l.marks)
