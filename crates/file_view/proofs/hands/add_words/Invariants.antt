use Rattle.std.proofs.Common.{◌≡◌, ◌++◌, take}
use Rattle.card_model.specs.Days.{Day}
use Rattle.hand_model.specs.ByHand.{words_by_hand}
use Rattle.file_view.specs.Walking.{IsDayAt}
use Rattle.file_view.proofs.hands.add_words.Given as goal

-- those of the words so far
abbrev pub invariant-loop-i : goal.invariant-loop-i
invariant-loop-i l =
    (d : Day) → IsDayAt l.string.shape l.file l.head d → l.list.items ≡ l.initial.list.items ++ words_by_hand l.mark d.date (take l.i d.words)
