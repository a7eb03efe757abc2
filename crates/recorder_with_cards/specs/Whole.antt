-- What is there after a run in which no failed call cut the power: every minute, and every whole kilometre (profile).
use Rattle.std.specs.Prelude.{◌≡◌, ◌⊎◌, ℕ, ◌+◌, ◌/◌, ◌≤◌, min, List, [], ◌∷◌, ◌++◌, Contains}
use Rattle.minute_rules.specs.minute_model.declared.Rule.{Rule}
use Rattle.minute_rules.specs.minute_model.declared.Minute.{Minute}
use Rattle.log_model.specs.Course.{ToldSecond}
use Rattle.log_model.specs.Spans.{spans_of}
use Rattle.unit_minutes.specs.unit_model.declared.layout.TheConstants.{HIGHEST_ODOMETER}
use Rattle.device_calls.specs.history_model.History.{decided_of}
use Rattle.unit_minutes.specs.unit_model.Image.{odometer_at}
use Rattle.unit_minutes.specs.DayOdometers.{RecordsDay}
use Rattle.device_calls.specs.run_unit_course.Legs.{kilometres_of, whole_legs}
use Rattle.device_calls.specs.safety_model.Recording.{Recording, told_of}
use Rattle.device_calls.specs.safety_model.Safe.{Devices}
use Rattle.run_minutes.specs.run_promise.Whole.{IsWhole}

-- an image's odometer is that of the start and the whole kilometres of each time with power, up to the last minute that
-- it decided
abbrev pub HasWholeOdometer : Rule → List ToldSecond → (odometer : ℕ) → List ℕ → Type 0
HasWholeOdometer rule told odometer x = odometer_at x
    ≡ min (odometer + kilometres_of (whole_legs rule (spans_of told))) HIGHEST_ODOMETER

-- THE ODOMETER OF A DAY that a run began, which the unit did not record at the start: that at the end of the first
-- minute of the day that a span has decided, the start's and the whole kilometres of each span before, and of that span
-- up to there
pub record HasDayOdometer (r : Recording) (day odometer : ℕ) : Type 0 where
  pub anew : (o : ℕ) → RecordsDay r.unit day o → ⊥
  pub earlier : List (List ToldSecond)
  pub span : List ToldSecond
  pub later : List (List ToldSecond)
  pub are : spans_of (told_of r) ≡ earlier ++ span ∷ later
  pub minute : Minute
  pub decided : Contains (decided_of r.rule span) minute
  pub day_is : minute.minute / 1440 ≡ day
  pub first : (s : List ToldSecond) (d : Minute) → Contains (spans_of (told_of r)) s → Contains (decided_of r.rule s) d
      → d.minute / 1440 ≡ day → minute.minute ≤ d.minute
  pub sum_is : odometer ≡ min (odometer_at r.unit + kilometres_of (whole_legs r.rule earlier ++ minute.travelled ∷ []))
      HIGHEST_ODOMETER

-- Each decided minute stands in the history, the unit has all of it, a card that was accepted, and that no failed call
-- has torn out, all of its entries; and so is the odometer, and that of each day which the unit records.
pub record IsAllThere (r : Recording) (now : Devices) : Type 0 where
  pub minutes : IsWhole r now
  pub odometer : (x : List ℕ) → now.unit.may_leave x → HasWholeOdometer r.rule (told_of r) (odometer_at r.unit) x
  pub days : (x : List ℕ) → now.unit.may_leave x → (day odometer : ℕ) → RecordsDay x day odometer
      → RecordsDay r.unit day odometer ⊎ HasDayOdometer r day odometer
