use Rattle.std.proofs.Common.{◌≡◌, ◌≢◌, ◌+◌, ◌≤◌, List, drop, length}
use Rattle.byteorder.specs.Endian.{big_number}
use Rattle.card_image.specs.CardFile.{FileEntry}
use Rattle.file_view.specs.Files.{AreFiles}
use Rattle.file_json.proofs.Making.{card_whole}
use Rattle.file_json.proofs.Filing.{AreToCome}
use Rattle.file_json.proofs.pieces.pieces_of_files.Given as goal

-- where bytes are left, a file stands there whole; and the pieces that are made tell, with the files behind, the whole text
abbrev pub invariant-loop-rest : goal.invariant-loop-rest
invariant-loop-rest l =
    (l.place + length l.rest ≡ length l.fn.b)
    × (length l.rest ≢ 0 → (5 ≤ length l.rest) × (5 + big_number 2 (drop 3 l.rest) ≤ length l.rest))
    × ((entries : List FileEntry) → AreFiles entries l.fn.b → (left : List FileEntry) × AreToCome l.fn.last left l.fn.b l.after l.place l.rest l.pieces.items (card_whole l.fn.last entries))

abbrev pub decreases-loop-rest : goal.decreases-loop-rest
decreases-loop-rest l = length l.rest
