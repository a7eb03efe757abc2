-- What was read of a card file.
use Rattle.std.specs.Prelude.{◌≡◌, ℕ, ◌+◌, ◌*◌, ◌≤◌, Bool, true, Option, Some, None, List, [], ◌∷◌, ◌++◌, length, drop}
use Rattle.tach_media.specs.Medium.{bytes_at}
use Rattle.card_layout.specs.declared.files.Application.{Application}
use Rattle.card_layout.specs.Application.{application_of, IsApplication}
use Rattle.card_image.specs.CardFile.{FileEntry, entry_bytes, IsFileEntry, values_of, IsCardFile}
use Rattle.file_view.specs.declared.entry.EntryAt.{EntryAt}
use Rattle.file_view.specs.declared.parts.Found.{Found}
use Rattle.file_view.specs.declared.parts.Parts.{Parts}
use Rattle.file_view.specs.CardFiles.{are_sizes, are_days, are_vehicles}

-- the value of an entry
abbrev pub value_at : List ℕ → EntryAt → List ℕ
value_at bytes at = bytes_at bytes at.place at.len

-- the entry that stands there
abbrev pub told_at : List ℕ → EntryAt → FileEntry
told_at bytes at = record { fid = at.fid; kind = at.kind; value = value_at bytes at }

-- an entry of the grammar stands at this place
pub record IsEntryAt (bytes : List ℕ) (place : ℕ) (at : EntryAt) : Type 0 where
  pub is : IsFileEntry (told_at bytes at)
  pub spelled : drop place bytes ≡ entry_bytes (told_at bytes at) ++ drop (at.place + at.len) bytes
  pub value : at.place ≡ place + 5
  pub inside : at.place + at.len ≤ length bytes

-- the card's sizes are among these entries, before the days and the vehicle entries
pub record AreSizes (app : Application) (entries : List FileEntry) : Type 0 where
  pub sizes : List ℕ
  pub one : values_of 0x0501 entries ≡ sizes ∷ []
  pub good : are_sizes sizes ≡ true
  pub told : app ≡ application_of sizes
  pub before : List FileEntry
  pub behind : List FileEntry
  pub split : entries ≡ before ++ behind
  pub first : (values_of 0x0501 before ≡ sizes ∷ []) × (values_of 0x0504 before ≡ []) × (values_of 0x0505 before ≡ [])

-- the sizes were found among these entries, or none of them tells any
abbrev pub SizesAre : Option Application → List FileEntry → Type 0
SizesAre None entries = values_of 0x0501 entries ≡ []
SizesAre (Some app) entries = AreSizes app entries

-- the value of a file was found at this place, if it was found
abbrev pub PartIs : (fid : ℕ) (len : Application → ℕ) (good : Option Application → List ℕ → Bool) → Option Application
    → Option ℕ → List ℕ → List FileEntry → Type 0
PartIs fid len good app None bytes entries = values_of fid entries ≡ []
PartIs fid len good None (Some place) bytes entries = ⊥
PartIs fid len good (Some app) (Some place) bytes entries =
    (values_of fid entries ≡ bytes_at bytes place (len app) ∷ [])
    × (good (Some app) (bytes_at bytes place (len app)) ≡ true) × (place + len app ≤ length bytes)

-- how many bytes the string of days has, with its pointers
abbrev pub days_size : Application → ℕ
days_size app = 4 + app.activity

-- how many bytes the vehicle entries have, with their pointer
abbrev pub vehicles_size : Application → ℕ
vehicles_size app = 2 + 31 * app.vehicles

-- what was found in a file whose front has these entries
pub record FoundInFile (bytes : List ℕ) (f : Found) (entries : List FileEntry) : Type 0 where
  pub sizes : SizesAre f.app entries
  pub days : PartIs 0x0504 days_size are_days f.app f.days bytes entries
  pub vehicles : PartIs 0x0505 vehicles_size are_vehicles f.app f.vehicles bytes entries

-- the parts are those that were found
abbrev pub ArePartsOf : Found → Parts → Type 0
ArePartsOf f parts = (f.app ≡ Some parts.app) × (f.days ≡ Some parts.days) × (f.vehicles ≡ Some parts.vehicles)

-- the string of days
abbrev pub days_part : List ℕ → Parts → List ℕ
days_part bytes parts = bytes_at bytes parts.days (days_size parts.app)

-- the vehicle entries
abbrev pub vehicles_part : List ℕ → Parts → List ℕ
vehicles_part bytes parts = bytes_at bytes parts.vehicles (vehicles_size parts.app)

-- the bytes are a card file with these parts
pub record AreParts (bytes : List ℕ) (parts : Parts) : Type 0 where
  pub entries : List FileEntry
  pub file : IsCardFile parts.app (days_part bytes parts) (vehicles_part bytes parts) entries bytes
  pub sound : IsApplication parts.app
  pub days_inside : parts.days + days_size parts.app ≤ length bytes
  pub vehicles_inside : parts.vehicles + vehicles_size parts.app ≤ length bytes
