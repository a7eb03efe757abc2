-- What was read of a card's download.
use Rattle.std.specs.Prelude.{◌≡◌, ℕ, ◌+◌, ◌≤◌, Bool, nat_eq, ◌&&◌, List, ◌++◌, length, map, drop}
use Rattle.std.specs.List.{AllByRecursion}
use Rattle.card_layout.specs.Fields.{joined}
use Rattle.card_layout.specs.Images.{bytes_at}
use Rattle.card_image.specs.CardFile.{FileEntry, entry_bytes}
use Rattle.file_extract.specs.declared.entries.DownloadEntry.{DownloadEntry}
use Rattle.file_extract.specs.declared.entries.Download.{Download}
use Rattle.file_extract.specs.Cards.{IsDownloadEntry, IsDownload}

-- where an entry ends
abbrev pub end_of : DownloadEntry → ℕ
end_of at = at.place + 5 + at.len

-- the entry that stands there
abbrev pub told_at : List ℕ → DownloadEntry → FileEntry
told_at bytes at = record { fid = at.fid; kind = at.kind; value = bytes_at bytes (at.place + 5) at.len }

-- an entry of a download stands there
pub record IsEntryAt (bytes : List ℕ) (at : DownloadEntry) : Type 0 where
  pub is : IsDownloadEntry (told_at bytes at)
  pub spelled : drop at.place bytes ≡ entry_bytes (told_at bytes at) ++ drop (end_of at) bytes
  pub inside : end_of at ≤ length bytes

-- the entries that stand there
abbrev pub told : List ℕ → List DownloadEntry → List FileEntry
told bytes all = map (told_at bytes) all

-- an entry stands at each of these places
abbrev pub StandThere : List ℕ → List DownloadEntry → Type 0
StandThere bytes all = AllByRecursion (IsEntryAt bytes) all

-- the bytes are this download
pub record IsRead (bytes : List ℕ) (read : Download) : Type 0 where
  pub stand : StandThere bytes read.entries.items
  pub download : IsDownload (told bytes read.entries.items) (drop read.end bytes) bytes
  pub end_is : read.end ≡ length (joined (map entry_bytes (told bytes read.entries.items)))
  pub inside : read.end ≤ length bytes

-- the value of a file with this identifier, and no signature
abbrev pub is_value_at : ℕ → DownloadEntry → Bool
is_value_at fid at = nat_eq at.kind 0 && nat_eq at.fid fid
