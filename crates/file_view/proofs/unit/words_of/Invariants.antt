use Rattle.std.proofs.Common.{◌≤◌, drop}
use Rattle.message_model.specs.Messages.{DayMessage}
use Rattle.file_view.specs.UnitShowing.{IsStoredAt, SlotsDecide}
use Rattle.file_view.proofs.unit.words_of.Given as goal

-- the words from the last one down
abbrev pub invariant-loop-left : goal.invariant-loop-left
invariant-loop-left l = record {
  most : l.left ≤ l.day.words;
  decide : (m : DayMessage) → IsStoredAt l.b l.day m → SlotsDecide l.words (drop l.left m.words);
}

abbrev pub decreases-loop-left : goal.decreases-loop-left
decreases-loop-left l = l.left
