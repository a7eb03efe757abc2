-- Which bytes are no card file, and where they first fail: one entry is judged after another.
use Rattle.std.specs.Prelude.{◌≡◌, ◌≢◌, ◌⊎◌, ℕ, ◌+◌, ◌-◌, ◌*◌, Bool, true, false, not, ◌&&◌, ◌||◌, ◌==◌, nat_lt}
use Rattle.std.specs.Prelude.{if◌then◌else◌, Option, Some, None, is_some, List, [], ◌∷◌, ◌++◌, length, map, drop, All}
use Rattle.card_layout.specs.Fields.{joined}
use Rattle.activity_codec.specs.declared.entries.Entry.{Entry}
use Rattle.card_layout.specs.declared.files.Application.{Application}
use Rattle.card_layout.specs.Application.{application_of, first_bad_field}
use Rattle.card_model.specs.Checks.{first_bad}
use Rattle.card_model.specs.Walk.{days_of}
use Rattle.card_retention.specs.Entries.{entries_up_to}
use Rattle.card_image.specs.Fields.{last_of}
use Rattle.card_image.specs.CardFile.{FileEntry, entry_bytes, IsFileEntry, is_value, values_of, string_alone}
use Rattle.card_image.specs.CardFile.{vehicles_alone, last_minute}
use Rattle.gated_ring.specs.Ring.{pointer, indices}

-- there is none
abbrev pub is_empty : {X : Type 0} → List X → Bool
is_empty [] = true
is_empty (x ∷ xs) = false

-- a value of Application_Identification: its size, and each field in its range
abbrev pub are_sizes : List ℕ → Bool
are_sizes value = length value == 10 && not (is_some (first_bad_field value))

-- the sizes that the first of such values tells
abbrev pub sizes_told : List (List ℕ) → Option Application
sizes_told [] = None
sizes_told (value ∷ values) = Some (application_of value)

-- a value of Driver_Activity_Data by the sizes that were told before it; without them none is one
abbrev pub are_days : Option Application → List ℕ → Bool
are_days None value = false
are_days (Some app) value = length value == 4 + app.activity && not (is_some (first_bad (string_alone app) value))

-- a value of Vehicles_Used by such sizes: its length, and its pointer within its entries
abbrev pub are_vehicles : Option Application → List ℕ → Bool
are_vehicles None value = false
are_vehicles (Some app) value = length value == 2 + 31 * app.vehicles
    && nat_lt (pointer (vehicles_alone app) value) app.vehicles

-- An entry of the grammar may stand behind others: the value of a needed file where none of that file is among them,
-- and where it decodes by the sizes that they tell. Any other entry is passed over.
abbrev pub may_follow : List FileEntry → FileEntry → Bool
may_follow before e =
    if is_value 0x0501 e then is_empty (values_of 0x0501 before) && are_sizes e.value
    else (if is_value 0x0504 e then is_empty (values_of 0x0504 before)
    && are_days (sizes_told (values_of 0x0501 before)) e.value
    else (if is_value 0x0505 e then is_empty (values_of 0x0505 before)
    && are_vehicles (sizes_told (values_of 0x0501 before)) e.value
    else true))

-- each of some entries may stand behind those before it
abbrev pub all_follow : (before : List FileEntry) → List FileEntry → Bool
all_follow before [] = true
all_follow before (e ∷ es) = may_follow before e && all_follow (before ++ e ∷ []) es

-- a needed file is not among the entries
abbrev pub lacks : List FileEntry → Bool
lacks entries = is_empty (values_of 0x0501 entries)
    || (is_empty (values_of 0x0504 entries) || is_empty (values_of 0x0505 entries))

-- no entry of the grammar stands at the front of these bytes
abbrev pub HasNoEntry : List ℕ → Type 0
HasNoEntry bytes = (e : FileEntry) (more : List ℕ) → IsFileEntry e → bytes ≢ entry_bytes e ++ more

-- an entry of the grammar stands there that may not stand behind these
pub record IsUnfit (entries : List FileEntry) (bytes : List ℕ) : Type 0 where
  pub entry : FileEntry
  pub more : List ℕ
  pub is : IsFileEntry entry
  pub spelled : bytes ≡ entry_bytes entry ++ more
  pub unfit : may_follow entries entry ≡ false

-- the file ends there, and lacks a needed one; or something stands there that is no entry of the grammar, or one that
-- may not
abbrev pub IsStuck : List FileEntry → List ℕ → Type 0
IsStuck entries rest = ((rest ≡ []) × (lacks entries ≡ true)) ⊎ (((rest ≢ []) × HasNoEntry rest) ⊎ IsUnfit entries rest)

-- The bytes are no card file, and this is the place of the first entry that is not in its grammar, or their length
-- where a needed entry is missing.
pub record IsBadCardFile (place : ℕ) (bytes : List ℕ) : Type 0 where
  -- the entries before the place
  pub entries : List FileEntry
  pub rest : List ℕ
  pub each : All IsFileEntry entries
  pub follow : all_follow [] entries ≡ true
  pub spelled : bytes ≡ joined (map entry_bytes entries) ++ rest
  pub place_is : place ≡ length (joined (map entry_bytes entries))
  pub stuck : IsStuck entries rest

-- the end mark that the vehicle entries tell
abbrev pub mark_of : Application → List ℕ → ℕ
mark_of app vehicles = last_minute app vehicles (last_of (indices (vehicles_alone app) vehicles))

-- the last n of a list, or all where there are fewer
abbrev pub newest : {X : Type 0} → ℕ → List X → List X
newest n xs = drop (length xs - n) xs

-- the entries that a card file shows of the newest n days of its string, also of those behind the end mark, which show
-- none
unfoldable pub last_entries : ℕ → Application → (days vehicles : List ℕ) → List Entry
last_entries n app days vehicles = entries_up_to (mark_of app vehicles) (newest n (days_of (string_alone app) days))
