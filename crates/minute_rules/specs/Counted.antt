-- What is counted of one minute.
use Rattle.std.specs.Prelude.{ℕ, ◌+◌, ◌-◌, ◌*◌, ◌≤◌, if◌then◌else◌, true, false, ◌&&◌, ◌||◌, List, length, map}
use Rattle.activity_codec.specs.Activity.{is_driving}
use Rattle.activity_codec.specs.declared.values.Activity.{Activity}
use Rattle.activity_codec.specs.declared.values.Activity.TheVariants.{Available, Work, Driving}
use Rattle.minute_model.specs.declared.TheConstants.{WAIT}
use Rattle.minute_model.specs.declared.Rule.{Rule}
use Rattle.minute_model.specs.declared.Rule.TheVariants.{Original, Amended}
use Rattle.minute_model.specs.Second.{Second}
use Rattle.minute_model.specs.Activity.{driver_at, codriver_at}
use Rattle.minute_model.specs.Minute.{in_minute, drives_in, travelled_to}
use Rattle.minute_model.specs.Stops.{open_of, fixed_of}
use Rattle.minute_rules.specs.declared.counted.Counted.{Counted}
use Rattle.minute_rules.specs.Tally.{no_run, with_run, longest_in, tally_of}
use Rattle.std.specs.Prelude.{nat_le, Option, Some, None}

-- the counts are at most the number of the next second
pub record Fits (next : ℕ) (counted : Counted) : Type 0 where
  pub driver : counted.driver.going_seconds + counted.open_seconds ≤ next
  pub codriver : counted.codriver.going_seconds ≤ next
  pub travelled : counted.travelled ≤ 255 * next

-- what is counted of a minute
abbrev pub counted_of : List Second → ℕ → Counted
counted_of seconds m = record {
  driver = tally_of (map (driver_at seconds) (in_minute m (fixed_of seconds)));
  open_seconds = length (in_minute m (open_of seconds));
  drives = drives_in seconds m;
  codriver = tally_of (map (codriver_at seconds) (in_minute m seconds));
  travelled = travelled_to seconds m;
}

-- no second yet
abbrev pub no_second : Counted
no_second = record { driver = no_run; open_seconds = 0; drives = false; codriver = no_run; travelled = 0 }

-- the open seconds get an activity
abbrev pub closed : Activity → Counted → Counted
closed act counted = record counted { driver = with_run counted.driver act counted.open_seconds; open_seconds = 0 }

-- so many more open seconds
abbrev pub opened : ℕ → Counted → Counted
opened n counted = record counted { open_seconds = counted.open_seconds + n }

-- so many more of the driver's seconds
abbrev pub with_driver : Activity → ℕ → Counted → Counted
with_driver act n counted = record counted { driver = with_run counted.driver act n }

-- so many more of the co-driver's seconds
abbrev pub with_codriver : Activity → ℕ → Counted → Counted
with_codriver act n counted = record counted { codriver = with_run counted.codriver act n }

-- so many more moving seconds
abbrev pub moved : ℕ → ℕ → Counted → Counted
moved n speed counted = record {
  driver = with_run counted.driver Driving n;
  open_seconds = counted.open_seconds;
  drives = true;
  codriver = with_run counted.codriver Available n;
  travelled = counted.travelled + n * speed;
}

-- so many more of the driver's seconds at speed 0: while the driver waits they are open, till the 120th second after
-- the stop
abbrev pub waited : Option ℕ → Activity → ℕ → Counted → Counted
waited None act n counted = with_driver act n counted
waited (Some count) act n counted =
    if nat_le n (WAIT - count) then opened n counted
    else with_driver act (n - (WAIT - count)) (closed Work (opened (WAIT - count) counted))

-- how long the driver has waited after so many more seconds at speed 0
abbrev pub waits_on : Option ℕ → ℕ → Option ℕ
waits_on None n = None
waits_on (Some count) n = if nat_le n (WAIT - count) then Some (count + n) else None

-- the minutes before: their open seconds get WORK where the wait ends
abbrev pub past_waited : Option ℕ → ℕ → List Counted → List Counted
past_waited None n past = past
past_waited (Some count) n past = if nat_le n (WAIT - count) then past else map (closed Work) past

-- the driver's longest activity, where open seconds count as WORK
abbrev pub drivers_longest : Counted → Activity
drivers_longest counted = longest_in (with_run counted.driver Work counted.open_seconds)

-- the driver's class of a minute, by it and its neighbours
abbrev pub class_by : Rule → (before this after : Counted) → Activity
class_by Original before this after = if this.drives || (before.drives && after.drives) then Driving
    else drivers_longest this
class_by Amended before this after = if is_driving (drivers_longest before) && is_driving (drivers_longest after)
    then Driving else drivers_longest this
