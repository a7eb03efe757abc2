-- The parts of a card's image that tell what it shows, how it is judged and its number, and writes beside them.
use Rattle.std.specs.Prelude.{◌≡◌, ◌⊎◌, ℕ, ◌+◌, ◌≤◌, List}
use Rattle.card_files.specs.card_layout.declared.files.Application.{Application}
use Rattle.card_files.specs.card_layout.Files.{place_of, size_of}
use Rattle.card_files.specs.tach_media.Medium.{bytes_at}
use Rattle.card_files.specs.gated_ring.Ring.{size_of as ring_size}
use Rattle.card_image.specs.Fields.{file, day_string, vehicle_ring, place_ring}

-- two images have the same bytes in a range
abbrev pub HaveSame : (base len : ℕ) → List ℕ → List ℕ → Type 0
HaveSame base len x c = bytes_at c base len ≡ bytes_at x base len

-- the same string of days
abbrev pub HaveSameDays : Application → List ℕ → List ℕ → Type 0
HaveSameDays app = HaveSame (day_string app).base (4 + (day_string app).size)

-- the same vehicle entries
abbrev pub HaveSameVehicles : Application → List ℕ → List ℕ → Type 0
HaveSameVehicles app = HaveSame (vehicle_ring app).base (ring_size (vehicle_ring app))

-- the same second of the session, in Current_Usage
abbrev pub HaveSameSession : Application → List ℕ → List ℕ → Type 0
HaveSameSession app = HaveSame (place_of app (file 0x0507)) 4

-- the same sizes, in Application_Identification
abbrev pub HaveSameSizes : Application → List ℕ → List ℕ → Type 0
HaveSameSizes app = HaveSame (place_of app (file 0x0501)) (size_of app (file 0x0501))

-- the same pointer of Places
abbrev pub HaveSamePlacePointer : Application → List ℕ → List ℕ → Type 0
HaveSamePlacePointer app = HaveSame (place_ring app).base (place_ring app).pointer_width

-- the same issuing state and number, in Identification
abbrev pub HaveSameIdentification : Application → List ℕ → List ℕ → Type 0
HaveSameIdentification app = HaveSame (place_of app (file 0x0520)) 17

-- a write of this range lies before another range or behind it
abbrev pub LiesBeside : (place len base size : ℕ) → Type 0
LiesBeside place len base size = (place + len ≤ base) ⊎ (base + size ≤ place)

-- a write of this range lies beside all of these parts
pub record IsBeside (app : Application) (place len : ℕ) : Type 0 where
  pub sizes : LiesBeside place len (place_of app (file 0x0501)) (size_of app (file 0x0501))
  pub days : LiesBeside place len (day_string app).base (4 + (day_string app).size)
  pub vehicles : LiesBeside place len (vehicle_ring app).base (ring_size (vehicle_ring app))
  pub places : LiesBeside place len (place_ring app).base (place_ring app).pointer_width
  pub session : LiesBeside place len (place_of app (file 0x0507)) 4
  pub identification : LiesBeside place len (place_of app (file 0x0520)) 17
