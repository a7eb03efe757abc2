use Rattle.std.proofs.Common.{◌≡◌, take}
use Rattle.card_model.specs.Walk.{days_of}
use Rattle.hand_model.specs.ByHand.{by_hand_up_to}
use Rattle.file_view.proofs.hands.hands_in.Given as goal

-- those of the days so far
abbrev pub invariant-loop-head : goal.invariant-loop-head
invariant-loop-head l = l.list.items ≡ by_hand_up_to l.mark (take l.head-index (days_of l.string.shape l.file))
