use Rattle.std.proofs.Common.{◌≡◌, ◌++◌, map, drop}
use Rattle.card_layout.specs.Fields.{joined}
use Rattle.card_image.specs.CardFile.{entry_bytes}
use Rattle.file_extract.specs.Reading.{told, StandThere}
use Rattle.file_extract.proofs.passing.bytes_of.Given as goal

-- the bytes so far, and those to come
abbrev pub invariant-loop-entry : goal.invariant-loop-entry
invariant-loop-entry l = record {
  bytes : l.out.items ++ joined (map entry_bytes (told l.b (drop l.entry-index l.entries))) ≡ joined (map entry_bytes (told l.b l.entries));
  stand : StandThere l.b (drop l.entry-index l.entries);
}
