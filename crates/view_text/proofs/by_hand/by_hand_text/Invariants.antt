use Rattle.std.proofs.Common.{take}
use Rattle.view_text.specs.ByHand.{IsByHandView}
use Rattle.view_text.proofs.by_hand.by_hand_text.Given as goal

-- the lines so far
abbrev pub invariant-loop-entry : goal.invariant-loop-entry
invariant-loop-entry l = IsByHandView (take l.entry-index l.entries) l.text.items
