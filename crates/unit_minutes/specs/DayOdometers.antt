-- The days that an image records, each with its odometer (profile).
use Rattle.std.specs.Prelude.{◌≡◌, ℕ, ◌/◌, ◌≤◌, List, Contains}
use Rattle.unit_model.specs.Days.{StoredDay, day_of}
use Rattle.unit_model.specs.Image.{last_kept, unit_days}

-- a day slot that is there is that of this day, and has this odometer
pub record HasSlot (x : List ℕ) (day odometer : ℕ) : Type 0 where
  pub slot : StoredDay
  pub there : Contains (unit_days x) slot
  pub day_is : day_of slot ≡ day
  pub odometer_is : slot.odometer ≡ odometer

-- AN IMAGE RECORDS A DAY with this odometer: a slot has it, and the day is not later than that of the last-kept minute.
pub record RecordsDay (x : List ℕ) (day odometer : ℕ) : Type 0 where
  pub has : HasSlot x day odometer
  pub kept : day ≤ last_kept x / 1440
