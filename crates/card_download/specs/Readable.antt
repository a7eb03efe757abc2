-- The card images whose card file can be viewed, and the entries that they show.
use Rattle.std.specs.Prelude.{◌≡◌, ℕ, ◌≤◌, Option, Some, None, List, length}
use Rattle.activity_codec.specs.declared.entries.Entry.{Entry}
use Rattle.card_layout.specs.Files.{image_size_of}
use Rattle.card_model.specs.Checks.{first_bad}
use Rattle.card_retention.specs.Entries.{entries_up_to}
use Rattle.gated_ring.specs.Ring.{PointsInside}
use Rattle.card_image.specs.Fields.{day_string, vehicle_ring, card_days}
use Rattle.card_image.specs.Own.{own_sizes, own_view}
use Rattle.file_view.specs.CardFiles.{newest}
use Rattle.card_download.specs.Written.{bad_field}

-- the image reaches to the end of the last file
abbrev pub HasAllFiles : List ℕ → Type 0
HasAllFiles x = image_size_of (own_sizes x) ≤ length x

-- its card file can be viewed: its sizes are in their ranges, its string of days decodes, and the pointer of its
-- vehicles is an index
pub record IsReadable (x : List ℕ) : Type 0 where
  pub sizes : bad_field x ≡ None
  pub days : first_bad (day_string (own_sizes x)) x ≡ None
  pub vehicles : PointsInside (vehicle_ring (own_sizes x)) x

-- the entries that an image shows, of all days or of the newest so many
abbrev pub image_entries : Option ℕ → List ℕ → List Entry
image_entries None x = (own_view x).held.entries
image_entries (Some n) x = entries_up_to (own_view x).mark (newest n (card_days (own_sizes x) x))
