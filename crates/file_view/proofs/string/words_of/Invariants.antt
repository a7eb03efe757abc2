use Rattle.std.proofs.Common.{◌≤◌, drop}
use Rattle.card_model.specs.Days.{Day}
use Rattle.file_view.specs.Deciding.{Decides}
use Rattle.file_view.specs.Walking.{IsDayAt}
use Rattle.file_view.proofs.string.words_of.Given as goal

-- the words from the last one down
abbrev pub invariant-loop-left : goal.invariant-loop-left
invariant-loop-left l = record {
  most : l.left ≤ l.head.words;
  decides : (d : Day) → IsDayAt l.string.shape l.file l.head d → Decides l.words (drop l.left d.words);
}

abbrev pub decreases-loop-left : goal.decreases-loop-left
decreases-loop-left l = l.left
