-- What is passed on of a card's download, and what is left out.
use Rattle.std.specs.Prelude.{◌≡◌, ℕ, not, Bool, List, length, map, filter}
use Rattle.card_layout.specs.Fields.{joined}
use Rattle.card_image.specs.CardFile.{FileEntry, entry_bytes}
use Rattle.file_extract.specs.declared.card.CardPart.{CardPart}
use Rattle.file_extract.specs.Reading.{told, StandThere}
use Rattle.file_extract.specs.Cards.{IsDownload, is_first, passed_on}

-- an entry of the second generation
abbrev pub is_second : FileEntry → Bool
is_second e = not (is_first e)

-- the bytes are a download, of which this is passed on; what is left out is told by its number and by its place
pub record IsPassedOn (bytes : List ℕ) (part : CardPart) : Type 0 where
  pub entries : List FileEntry
  pub rest : List ℕ
  pub download : IsDownload entries rest bytes
  -- what comes out are these entries in this order, byte for byte
  pub stand : StandThere bytes part.passed.items
  pub passed : told bytes part.passed.items ≡ passed_on entries
  pub bytes_are : part.bytes.items ≡ joined (map entry_bytes (passed_on entries))
  -- so many entries of the second generation are left out
  pub second : part.second ≡ length (filter is_second entries)
  -- and all that stands behind this place
  pub end_is : part.end ≡ length (joined (map entry_bytes entries))
