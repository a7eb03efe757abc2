-- The vehicle entries that a card file tells.
use Rattle.std.specs.Prelude.{◌≡◌, ℕ, List, map}
use Rattle.activity_codec.specs.declared.entries.Entry.{Entry}
use Rattle.card_layout.specs.declared.files.Application.{Application}
use Rattle.card_files.specs.declared.vehicle.Vehicle.{Vehicle}
use Rattle.card_files.specs.Vehicles.{vehicle_of}
use Rattle.gated_ring.specs.Ring.{indices, entry_at}
use Rattle.card_image.specs.CardFile.{FileEntry, IsCardFile, vehicles_alone, shown_entries}

-- the vehicle entry at an index
abbrev pub vehicle_in : Application → List ℕ → ℕ → Vehicle
vehicle_in app vehicles i = vehicle_of (entry_at (vehicles_alone app) vehicles i)

-- the vehicle entries that are there, oldest first
unfoldable pub vehicles_told : Application → List ℕ → List Vehicle
vehicles_told app vehicles = map (vehicle_in app vehicles) (indices (vehicles_alone app) vehicles)

-- the bytes are a card file, which shows these entries and tells these vehicle entries
pub record ShowsCard (bytes : List ℕ) (shown : List Entry) (told : List Vehicle) : Type 0 where
  pub app : Application
  pub days : List ℕ
  pub vehicles : List ℕ
  pub entries : List FileEntry
  pub file : IsCardFile app days vehicles entries bytes
  pub shown_are : shown ≡ shown_entries app days vehicles
  pub told_are : told ≡ vehicles_told app vehicles
