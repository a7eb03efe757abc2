use Rattle.std.proofs.Common.{◌≢◌, ◌+◌, ◌≤◌, List, drop, length}
use Rattle.byteorder.specs.Endian.{big_number}
use Rattle.card_image.specs.CardFile.{FileEntry}
use Rattle.file_view.specs.Files.{AreFiles}
use Rattle.unit_marks.specs.Cards.{files_marks}
use Rattle.unit_marks.proofs.TellingCards.{AreFilesLeft}
use Rattle.unit_marks.proofs.cards.marks_of_files.Given as goal

-- where bytes are left, a file stands there whole; and what is told with the marks of the files behind is the whole
abbrev pub invariant-loop-rest : goal.invariant-loop-rest
invariant-loop-rest l =
    (length l.rest ≢ 0 → (5 ≤ length l.rest) × (5 + big_number 2 (drop 3 l.rest) ≤ length l.rest))
    × ((entries : List FileEntry) → AreFiles entries l.fn.b → (left : List FileEntry) × AreFilesLeft left l.rest l.marks.items (files_marks entries))

abbrev pub decreases-loop-rest : goal.decreases-loop-rest
decreases-loop-rest l = length l.rest
