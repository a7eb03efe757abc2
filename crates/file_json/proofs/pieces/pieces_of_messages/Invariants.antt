use Rattle.std.proofs.Common.{◌≡◌, ◌+◌, List, length}
use Rattle.message_model.specs.Messages.{Message, IsUnitFile}
use Rattle.file_view.specs.Places.{ArePlaced}
use Rattle.file_json.specs.Units.{messages_told}
use Rattle.file_json.proofs.Making.{unit_whole}
use Rattle.file_json.proofs.Walking.{AreFrom}
use Rattle.file_json.proofs.pieces.pieces_of_messages.Given as goal

-- the pieces that are made tell, with the messages behind, the whole text
abbrev pub invariant-loop-at : goal.invariant-loop-at
invariant-loop-at l =
    (l.place + length l.rest ≡ length l.fn.b)
    × ((messages : List Message) → IsUnitFile messages l.fn.b → ArePlaced l.fn.b l.all messages → AreFrom messages l.fn.b l.at-index l.skip l.after l.place l.rest l.pieces.items (unit_whole (messages_told l.fn.last messages)))
