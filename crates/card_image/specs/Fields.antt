-- Where a card of given sizes keeps its days, vehicles, places and session, and what these fields say.
use Rattle.std.specs.Prelude.{ℕ, ◌/◌, Option, Some, None, List, [], ◌∷◌, ◌++◌}
use Rattle.card_files.specs.card_layout.declared.files.Application.{Application}
use Rattle.card_files.specs.card_layout.Files.{place_of, size_of}
use Rattle.card_files.specs.tach_media.Medium.{bytes_at}
use Rattle.card_files.specs.declared.vehicle.Vehicle.{Vehicle}
use Rattle.card_files.specs.Vehicles.{vehicle_of}
use Rattle.card_files.specs.declared.current_use.CurrentUse.{CurrentUse}
use Rattle.card_files.specs.CurrentUses.{current_use_of}
pub use Rattle.card_files.specs.Rings.{file, vehicle_ring, place_ring}
use Rattle.card_retention.specs.card_model.Days.{Day}
use Rattle.card_retention.specs.card_model.Image.{StringShape}
use Rattle.card_retention.specs.card_model.Walk.{days_of}
use Rattle.card_files.specs.gated_ring.Ring.{indices, entry_at}

-- a file's bytes in the image
abbrev pub file_bytes : Application → ℕ → List ℕ → List ℕ
file_bytes app n x = bytes_at x (place_of app (file n)) (size_of app (file n))

-- the string of days, in Driver_Activity_Data
abbrev pub day_string : Application → StringShape
day_string app = record { base = place_of app (file 0x0504); size = app.activity }

-- the last of a list, if there is one
abbrev pub last_of : {X : Type 0} → List X → Option X
last_of [] = None
last_of (x ∷ []) = Some x
last_of (x ∷ y ∷ xs) = last_of (y ∷ xs)

-- the vehicle that an entry of the ring tells, if there is one
abbrev pub vehicle_at : Application → List ℕ → Option ℕ → Option Vehicle
vehicle_at app x None = None
vehicle_at app x (Some i) = Some (vehicle_of (entry_at (vehicle_ring app) x i))

-- the newest vehicle entry
unfoldable pub newest_vehicle : Application → List ℕ → Option Vehicle
newest_vehicle app x = vehicle_at app x (last_of (indices (vehicle_ring app) x))

-- when a vehicle was last used, in seconds; 0 without one
abbrev pub last_use_of : Option Vehicle → ℕ
last_use_of None = 0
last_use_of (Some v) = v.last_use.0

-- when the newest vehicle was last used, in seconds; 0 without one
abbrev pub last_use : Application → List ℕ → ℕ
last_use app x = last_use_of (newest_vehicle app x)

-- the end mark: the minute up to which the card's minutes count
abbrev pub end_mark : Application → List ℕ → ℕ
end_mark app x = last_use app x / 60

-- what Current_Usage says: when the open session began, and with which vehicle
unfoldable pub current_use : Application → List ℕ → CurrentUse
current_use app x = current_use_of (file_bytes app 0x0507 x)

-- the second in which the open session began; 0 where none is open
abbrev pub session_time : Application → List ℕ → ℕ
session_time app x = (current_use app x).session.0

-- the days of the card's string
unfoldable pub card_days : Application → List ℕ → List Day
card_days app x = days_of (day_string app) x

-- the card's number: the card type, the issuing state and the number as the card has it
unfoldable pub card_number : Application → List ℕ → List ℕ
card_number app x = bytes_at x (place_of app (file 0x0501)) 1 ++ bytes_at x (place_of app (file 0x0520)) 17
