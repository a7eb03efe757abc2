use Rattle.std.proofs.Common.{◌≡◌, ◌+◌, drop}
use Rattle.card_layout.specs.Files.{total_size}
use Rattle.card_commands.specs.Ports.{file_from}
use Rattle.card_commands.proofs.place.file_in.Given as goal

abbrev pub invariant-loop-file : goal.invariant-loop-file
invariant-loop-file l = record {
  sum : l.base + total_size (drop l.file-index l.files) ≡ total_size l.fn.files;
  rest : file_from l.base (drop l.file-index l.files) l.place ≡ file_from 0 l.fn.files l.place;
}
