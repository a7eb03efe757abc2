use Rattle.std.proofs.Common.{◌≡◌, List, take}
use Rattle.message_model.specs.Messages.{Message}
use Rattle.file_view.specs.Places.{ArePlaced}
use Rattle.unit_marks.proofs.Telling.{midnights_told}
use Rattle.unit_marks.proofs.marks.midnights_in.Given as goal

-- the midnights of the messages so far
abbrev pub invariant-loop-at : goal.invariant-loop-at
invariant-loop-at l = (messages : List Message) → ArePlaced l.b l.all messages → l.midnights.items ≡ midnights_told (take l.at-index messages)
