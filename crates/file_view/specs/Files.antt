-- The files of a card file, one after the other (Annex IB, Appendix 7, 3.4).
use Rattle.std.specs.Prelude.{◌≡◌, ℕ, List, map, All}
use Rattle.card_layout.specs.Fields.{joined}
use Rattle.card_image.specs.CardFile.{FileEntry, IsFileEntry, entry_bytes}

-- the bytes are these files, one after the other
pub record AreFiles (entries : List FileEntry) (bytes : List ℕ) : Type 0 where
  pub each : All IsFileEntry entries
  pub spelled : bytes ≡ joined (map entry_bytes entries)
