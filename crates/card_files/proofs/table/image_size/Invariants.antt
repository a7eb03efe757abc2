use Rattle.std.proofs.Common.{◌≡◌, ◌+◌, drop}
use Rattle.card_layout.specs.Files.{total_size, image_size_of}
use Rattle.card_files.proofs.table.image_size.Given as goal

abbrev pub invariant-loop-file : goal.invariant-loop-file
invariant-loop-file l = l.size + total_size (drop l.file-index l.file-items) ≡ image_size_of l.fn.app
