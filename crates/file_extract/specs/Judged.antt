-- Whether what is passed on is a card file.
use Rattle.std.specs.Prelude.{◌≡◌, ◌⊎◌, ℕ, ◌-◌, nat_eq, if◌then◌else◌, List, [], ◌∷◌, ◌++◌, length, map, drop}
use Rattle.card_layout.specs.Fields.{joined}
use Rattle.card_layout.specs.declared.files.Application.{Application}
use Rattle.card_image.specs.CardFile.{FileEntry, entry_bytes, IsCardFile}
use Rattle.file_view.specs.CardFiles.{IsBadCardFile}
use Rattle.file_view.specs.declared.fault.ViewFault.{ViewFault}
use Rattle.file_view.specs.declared.fault.ViewFault.TheVariants.{BadFile, Memory}
use Rattle.file_extract.specs.declared.entries.DownloadEntry.{DownloadEntry}
use Rattle.file_extract.specs.Cards.{IsDownload, passed_on}

-- the bytes are a card file
pub record IsWhole (bytes : List ℕ) : Type 0 where
  pub app : Application
  pub days : List ℕ
  pub vehicles : List ℕ
  pub entries : List FileEntry
  pub file : IsCardFile app days vehicles entries bytes

-- an entry stands at one place of a download, and at another of what is passed on of it
pub record StandsAt (bytes out : List ℕ) (place at : ℕ) : Type 0 where
  pub entry : FileEntry
  pub more : List ℕ
  pub behind : List ℕ
  pub spelled : drop place bytes ≡ entry_bytes entry ++ more
  pub passed : drop at out ≡ entry_bytes entry ++ behind

-- for a place of what is passed on this place of the download is told: that of the same entry, or both ends
abbrev pub IsToldFor : (bytes out : List ℕ) (place at : ℕ) → Type 0
IsToldFor bytes out place at = ((at ≡ length out) × (place ≡ length bytes)) ⊎ StandsAt bytes out place at

-- of a download nothing can be passed on: what is of the first generation is no card file, first at an entry that
-- stands at this place, or the place is the download's end, where a needed entry is missing
pub record IsNone (place : ℕ) (bytes : List ℕ) : Type 0 where
  pub entries : List FileEntry
  pub rest : List ℕ
  pub download : IsDownload entries rest bytes
  pub at : ℕ
  pub bad : IsBadCardFile at (joined (map entry_bytes (passed_on entries)))
  pub told : IsToldFor bytes (joined (map entry_bytes (passed_on entries))) place at

-- where the entry stands in the download that stands at a place of what is passed on; else its end
abbrev pub place_for : List DownloadEntry → (at end : ℕ) → ℕ
place_for [] at end = end
place_for (x ∷ xs) at end = if nat_eq at 0 then x.place else place_for xs (at - 5 - x.len) end

-- the fault that is told of a download, by the fault of what is passed on
abbrev pub fault_for : List DownloadEntry → (end : ℕ) → ViewFault → ViewFault
fault_for passed end (BadFile at) = BadFile (place_for passed at end)
fault_for passed end Memory = Memory
