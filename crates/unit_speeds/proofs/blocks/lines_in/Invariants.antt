use Rattle.std.proofs.Common.{◌≡◌, List, take}
use Rattle.message_model.specs.Messages.{Message}
use Rattle.file_view.specs.Places.{ArePlaced}
use Rattle.unit_speeds.specs.Speeds.{speeds_told}
use Rattle.unit_speeds.proofs.blocks.lines_in.Given as goal

-- the lines of the messages so far
abbrev pub invariant-loop-at : goal.invariant-loop-at
invariant-loop-at l = (messages : List Message) → ArePlaced l.b l.all messages → l.lines.items ≡ speeds_told (take l.at-index messages)
