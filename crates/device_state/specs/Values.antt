-- Values that may be none (profile).
use Rattle.std.specs.Prelude.{ℕ, ◌+◌, ◌*◌, ◌/◌, max, ◌==◌, nat_lt, if◌then◌else◌, Option, Some, None}
use Rattle.card_files.specs.declared.vehicle.Vehicle.{Vehicle}
use Rattle.tacho_types.specs.declared.calendar.TheConstants.{DAYS}
use Rattle.state_text.specs.declared.line.Value.{Value}
use Rattle.state_text.specs.declared.line.Value.TheVariants as value
use Rattle.state_text.specs.Lines.{day_of}
use Rattle.device_state.specs.declared.values.TheConstants.{FIRST_START, LAST_START}

-- a value on a day that a time of four bytes can name; any other is not told
abbrev pub dated : Value → Value
dated v = if nat_lt (day_of v) DAYS then v else value.Nothing

-- a minute, of which 0 is none
abbrev pub minute_value : ℕ → Value
minute_value minute = if minute == 0 then value.Nothing else dated (value.Minute minute)

-- a second, of which 0 is none
abbrev pub second_value : ℕ → Value
second_value second = if second == 0 then value.Nothing else dated (value.Second second)

-- the day that begins at a second
abbrev pub day_value : Option ℕ → Value
day_value None = value.Nothing
day_value (Some second) = dated (value.Day (second / 86400))

-- the second as a value, and none where no trace may begin so late
abbrev pub start_by : ℕ → Value
start_by start = if nat_lt LAST_START start then value.Nothing else value.Count start

-- THE EARLIEST `start` OF A NEXT TRACE: the first second of the minute behind the last-kept one, of those with which a
-- trace may begin
abbrev pub start_value : (kept : ℕ) → Value
start_value kept = start_by (max FIRST_START (60 * (kept + 1)))

-- when the vehicle of the newest use was used last
abbrev pub use_value : Option Vehicle → Value
use_value None = value.Nothing
use_value (Some vehicle) = second_value vehicle.last_use.0

-- the registration of that vehicle
abbrev pub vehicle_value : Option Vehicle → Value
vehicle_value None = value.Nothing
vehicle_value (Some vehicle) = value.Plate vehicle.registration
