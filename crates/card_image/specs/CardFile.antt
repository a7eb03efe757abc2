-- The card file: a card's files one after the other (Appendix 7, 3.4), and the entries that it shows.
use Rattle.std.specs.Prelude.{◌≡◌, ℕ, ◌+◌, ◌*◌, ◌/◌, ◌<◌, ◌≤◌, ◌^◌, Bool, not, ◌&&◌, Option, Some, None, List, [], ◌∷◌}
use Rattle.std.specs.Prelude.{◌++◌, length, map, filter, nat_eq, All}
use Rattle.byteorder.specs.Endian.{big_bytes}
use Rattle.card_files.specs.card_layout.Fields.{joined}
use Rattle.card_retention.specs.activity_codec.declared.entries.Entry.{Entry}
use Rattle.card_files.specs.card_layout.declared.files.Application.{Application}
use Rattle.card_files.specs.card_layout.declared.files.CardFile.{CardFile}
use Rattle.card_files.specs.card_layout.Application.{application_of, first_bad_field}
use Rattle.card_files.specs.card_layout.Files.{files_of, place_of, size_of}
use Rattle.card_files.specs.tach_media.Medium.{bytes_at}
use Rattle.card_retention.specs.card_model.Image.{StringShape}
use Rattle.card_retention.specs.card_model.Walk.{days_of}
use Rattle.card_retention.specs.card_model.Checks.{first_bad}
use Rattle.card_retention.specs.Entries.{entries_up_to}
use Rattle.card_files.specs.Vehicles.{vehicle_of}
use Rattle.card_files.specs.gated_ring.Ring.{Shape, PointsInside, indices, entry_at}
use Rattle.card_image.specs.Fields.{vehicle_ring, last_of}

-- an entry of a card file: a file's identifier, the kind, 0 for its value and 1 for a signature, and the bytes
pub record FileEntry : Type 0 where
  pub fid : ℕ
  pub kind : ℕ
  pub value : List ℕ

-- identifier in two bytes, kind in one, length in two, and the bytes
abbrev pub entry_bytes : FileEntry → List ℕ
entry_bytes e = joined (big_bytes 2 e.fid ∷ big_bytes 1 e.kind ∷ big_bytes 2 (length e.value) ∷ e.value ∷ [])

-- the entry of a file of a card's image
abbrev pub entry_of : Application → List ℕ → CardFile → FileEntry
entry_of app x f = record { fid = f.fid.0; kind = 0; value = bytes_at x (place_of app f.fid) (size_of app f.fid) }

-- the entries of a card's image: all files but Card_Download in their order (the order, and that no signature is
-- written: profile)
abbrev pub entries_of : Application → List ℕ → List FileEntry
entries_of app x = map (entry_of app x) (filter (λ f. not (nat_eq f.fid.0 0x050E)) (files_of app))

-- the card file
unfoldable pub card_file : Application → List ℕ → List ℕ
card_file app x = joined (map entry_bytes (entries_of app x))

-- an entry of the grammar
pub record IsFileEntry (e : FileEntry) : Type 0 where
  pub fid : e.fid < 2 ^ 16
  pub kind : e.kind ≤ 1
  pub short : length e.value < 2 ^ 16

-- an entry is the value of the file with this identifier, and no signature
abbrev pub is_value : ℕ → FileEntry → Bool
is_value fid e = nat_eq e.kind 0 && nat_eq e.fid fid

-- the values of a file among some entries
abbrev pub values_of : ℕ → List FileEntry → List (List ℕ)
values_of fid entries = map (λ e. e.value) (filter (is_value fid) entries)

-- the string of days as its file stands alone
abbrev pub string_alone : Application → StringShape
string_alone app = record { base = 0; size = app.activity }

-- the ring of vehicle entries as its file stands alone
abbrev pub vehicles_alone : Application → Shape
vehicles_alone app = record (vehicle_ring app) { base = 0 }

-- a card file of these entries, whose sizes are these: the files of sizes, days and vehicles are there once each, the
-- sizes before the others; and they decode
pub record IsCardFile (app : Application) (days vehicles : List ℕ) (entries : List FileEntry) (bytes : List ℕ) : Type
    0 where
  pub each : All IsFileEntry entries
  pub spelled : bytes ≡ joined (map entry_bytes entries)
  pub sizes : List ℕ
  pub one_application : values_of 0x0501 entries ≡ sizes ∷ []
  pub one_string : values_of 0x0504 entries ≡ days ∷ []
  pub one_ring : values_of 0x0505 entries ≡ vehicles ∷ []
  pub before : List FileEntry
  pub behind : List FileEntry
  pub first : entries ≡ before ++ behind
  pub sizes_first : (values_of 0x0501 before ≡ sizes ∷ []) × (values_of 0x0504 before ≡ [])
      × (values_of 0x0505 before ≡ [])
  pub sized : (length sizes ≡ 10) × (length days ≡ 4 + app.activity) × (length vehicles ≡ 2 + 31 * app.vehicles)
  pub application : (first_bad_field sizes ≡ None) × (app ≡ application_of sizes)
  pub string : first_bad (string_alone app) days ≡ None
  pub ring : PointsInside (vehicles_alone app) vehicles

-- the minute of the last use that the vehicle entries tell
abbrev pub last_minute : Application → List ℕ → Option ℕ → ℕ
last_minute app vehicles None = 0
last_minute app vehicles (Some i) = (vehicle_of (entry_at (vehicles_alone app) vehicles i)).last_use.0 / 60

-- the entries that a card file shows: those of its days up to the end mark
unfoldable pub shown_entries : Application → (days vehicles : List ℕ) → List Entry
shown_entries app days vehicles =
    entries_up_to (last_minute app vehicles (last_of (indices (vehicles_alone app) vehicles)))
    (days_of (string_alone app) days)
