use Rattle.std.proofs.Common.{◌++◌}
use Rattle.unit_marks.specs.Cards.{list_marks}
use Rattle.unit_marks.proofs.TellingCards.{AreRecords}
use Rattle.unit_marks.proofs.cards.add_records.Given as goal

-- what is told with the marks of the records behind is the whole
abbrev pub invariant-loop-left : goal.invariant-loop-left
invariant-loop-left l = AreRecords l.left l.width l.fn.kind l.rest l.marks.items (l.fn.marks.items ++ list_marks l.fn.kind l.fn.bytes)

abbrev pub decreases-loop-left : goal.decreases-loop-left
decreases-loop-left l = l.left
