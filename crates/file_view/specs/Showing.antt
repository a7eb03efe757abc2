-- What is shown of a card file.
use Rattle.std.specs.Prelude.{◌≡◌, ℕ, ◌+◌, ◌-◌, nat_le, if◌then◌else◌, Option, Some, None, List, [], ◌∷◌, flat_map}
use Rattle.std.specs.List.{range_with_len}
use Rattle.activity_codec.specs.declared.entries.Entry.{Entry}
use Rattle.activity_codec.specs.declared.words.Change.{Change}
use Rattle.card_layout.specs.declared.files.Application.{Application}
use Rattle.card_days.specs.declared.head.DayHead.{DayHead}
use Rattle.card_days.specs.Heads.{heads_of}
use Rattle.card_model.specs.Walk.{days_of}
use Rattle.card_image.specs.CardFile.{FileEntry, IsCardFile, shown_entries, string_alone}
use Rattle.file_view.specs.CardFiles.{last_entries}

-- how many of so many days stand before those that are shown
abbrev pub before_last : Option ℕ → ℕ → ℕ
before_last None count = 0
before_last (Some n) count = count - n

-- the entries of all days, or of the newest so many
abbrev pub entries_told : Option ℕ → Application → (days vehicles : List ℕ) → List Entry
entries_told None app days vehicles = shown_entries app days vehicles
entries_told (Some n) app days vehicles = last_entries n app days vehicles

-- the bytes are a card file, of which these entries are shown
pub record ShowsCardFile (last : Option ℕ) (bytes : List ℕ) (shown : List Entry) : Type 0 where
  pub app : Application
  pub days : List ℕ
  pub vehicles : List ℕ
  pub entries : List FileEntry
  pub file : IsCardFile app days vehicles entries bytes
  pub shown_are : shown ≡ entries_told last app days vehicles

-- the bytes are a card file, and these are the heads of the days of its string, oldest first
pub record TellsHeads (bytes : List ℕ) (heads : List DayHead) : Type 0 where
  pub app : Application
  pub days : List ℕ
  pub vehicles : List ℕ
  pub entries : List FileEntry
  pub file : IsCardFile app days vehicles entries bytes
  pub heads_are : heads ≡ heads_of (string_alone app) days (days_of (string_alone app) days)

-- the entry that a change tells of a minute, if it tells one
abbrev pub entry_of : ℕ → Option Change → List Entry
entry_of minute None = []
entry_of minute (Some c) = if c.absent then []
    else record { minute = minute; slot = c.slot; crew = c.crew_or_known; act = c.act } ∷ []

-- and where the minute is not behind the mark
abbrev pub entry_up_to : (mark minute : ℕ) → Option Change → List Entry
entry_up_to mark minute change = if nat_le minute mark then entry_of minute change else []

-- those of minutes in a row
abbrev pub entries_in : (mark first last : ℕ) → Option Change → List Entry
entries_in mark first last change = flat_map (λ minute. entry_up_to mark minute change)
    (range_with_len first (last + 1 - first))
