use Rattle.std.proofs.Common.{◌≡◌, ◌+◌, drop}
use Rattle.card_layout.specs.Files.{total_size, range_from}
use Rattle.card_files.proofs.table.range_in.Given as goal

abbrev pub invariant-loop-file : goal.invariant-loop-file
invariant-loop-file l =
    (l.base + total_size (drop l.file-index l.files) ≡ total_size l.fn.files)
    × (range_from l.base (drop l.file-index l.files) l.fid ≡ range_from 0 l.fn.files l.fid)
