-- Of which odometer values the vehicle entries of a card tell, by the minute, and of which image one of it is made
-- (profile): over calls, whatever of them failed.
use Rattle.std.specs.Prelude.{◌≡◌, ◌⊎◌, ℕ, ◌/◌, List, Contains}
use Rattle.tach_media.specs.Medium.{State}
use Rattle.tach_media.specs.card_layout.declared.files.Application.{Application}
use Rattle.device_calls.specs.card_files.declared.vehicle.Vehicle.{Vehicle}
use Rattle.device_calls.specs.gated_ring.Ring.{PointsInside}
use Rattle.device_calls.specs.card_image.Fields.{vehicle_ring}
use Rattle.device_calls.specs.card_session.Vehicles.{Vehicles}
use Rattle.device_calls.specs.card_session.Sessions.{book_of}
use Rattle.device_calls.specs.card_string.Deeds.{IsMadeOn}
use Rattle.run_devices.specs.Registered.{AreIn, SomeIs}

-- a vehicle entry goes on: it has the vehicle, the first use and the odometer at the begin of another
abbrev pub GoesOnFrom : (w v : Vehicle) → Type 0
GoesOnFrom w v = (v.registration ≡ w.registration) × (v.first_use ≡ w.first_use)
    × (v.odometer_begin ≡ w.odometer_begin)

-- A READING: the odometer value that is kept with a minute
pub record Reading : Type 0 where
  pub minute : ℕ
  pub odometer : ℕ

-- the reading of this minute with this odometer
abbrev pub reading_at : (minute odometer : ℕ) → Reading
reading_at minute odometer = record { minute = minute; odometer = odometer }

-- AN ENTRY IS MEASURED SO, by the entries before: the odometer at its begin is a reading of the minute in which it
-- begins, or it goes on from one of them; and the odometer at its end is a reading of some minute, or it is that of one
-- from which it goes on.
pub record IsMeasured (Is : Reading → Type 0) (old : Vehicles) (v : Vehicle) : Type 0 where
  pub begins : Is (reading_at (v.first_use.0 / 60) v.odometer_begin.0) ⊎ SomeIs (λ w. GoesOnFrom w v) old
  pub ends : ((m : ℕ) × Is (reading_at m v.odometer_end.0))
      ⊎ SomeIs (λ w. GoesOnFrom w v × (v.odometer_end ≡ w.odometer_end)) old

-- EACH VEHICLE ENTRY IS MEASURED SO
abbrev pub AreMeasured : (Is : Reading → Type 0) → (old now : Vehicles) → Type 0
AreMeasured Is old now = AreIn (IsMeasured Is old) now

-- the vehicle entries of an image, by these sizes
abbrev pub vehicles_by : Application → List ℕ → Vehicles
vehicles_by app x = (book_of app x).vehicles

-- AN IMAGE GOES ON FROM ANOTHER, by these sizes: where the pointer of its vehicle entries is an index it is one still,
-- they are measured so, and it is made of the other
abbrev pub GoesMeasured : Application → (Is : Reading → Type 0) → (x y : List ℕ) → Type 0
GoesMeasured app Is x y = PointsInside (vehicle_ring app) x
    → PointsInside (vehicle_ring app) y × AreMeasured Is (vehicles_by app x) (vehicles_by app y) × IsMadeOn app x y

-- CALLS MEASURE with these readings: each image that a card may leave behind them goes on from one before, with no
-- others
abbrev pub MeasuresOn : Application → (values : List Reading) → (old new : State) → Type 0
MeasuresOn app values old new = (y : List ℕ) → new.may_leave y
    → (x : List ℕ) × old.may_leave x × GoesMeasured app (λ r. Contains values r) x y

-- CALLS MAKE THE IMAGES OF A CARD: each that it may leave behind them is made of one before, where the pointer of the
-- vehicle entries of that is an index, and then it is one still
abbrev pub MakesOn : Application → (old new : State) → Type 0
MakesOn app old new = (y : List ℕ) → new.may_leave y
    → (x : List ℕ) × old.may_leave x
    × (PointsInside (vehicle_ring app) x → PointsInside (vehicle_ring app) y × IsMadeOn app x y)
