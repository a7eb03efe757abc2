use Rattle.std.proofs.Common.{◌≡◌, List, take}
use Rattle.message_model.specs.Messages.{Message}
use Rattle.file_view.specs.Places.{ArePlaced}
use Rattle.unit_marks.specs.Marks.{gaps_told}
use Rattle.unit_marks.proofs.marks.gaps_in.Given as goal

-- the gaps of the messages so far
abbrev pub invariant-loop-at : goal.invariant-loop-at
invariant-loop-at l = (messages : List Message) → ArePlaced l.b l.all messages → l.gaps.items ≡ gaps_told (take l.at-index messages)
