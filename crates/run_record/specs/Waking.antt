-- A second with power begins in a run with cards (profile): the cards in its slots wait, and are judged one after the
-- other.
use Rattle.std.specs.Prelude.{◌≡◌, ℕ, ◌/◌, true, false, None, List, [], ◌∷◌, Contains}
use Rattle.minute_rules.specs.activity_codec.declared.values.Slot.{Slot}
use Rattle.minute_rules.specs.activity_codec.declared.values.Slot.TheVariants.{Driver, CoDriver}
use Rattle.run_devices.specs.trace_model.Trace.{TraceSecond}
use Rattle.minute_rules.specs.Kept.{Kept}
use Rattle.run_devices.specs.log_model.Log.{In, found_in}
use Rattle.run_devices.specs.log_model.Course.{Visit, fresh, went}
use Rattle.run_devices.specs.run_unit_course.Followed.{UnitPower, MayPower}
use Rattle.run_devices.specs.safety_model.Safe.{Devices}
use Rattle.run_devices.specs.run_promise.Origin.{Origin}
use Rattle.run_record.specs.Recorded.{Values, slots_of, RecordBetweenSeconds}
use Rattle.run_record.specs.Within.{Beginning, RecordInSecond}
use Rattle.run_record.specs.Powering.{begun_values, odometer_found, counted_from, IsBack, begun_again}

-- AT A POWER-ON with which a second begins so: power begins with it, these cards wait, all minutes before this one are
-- over, and of the cards of these slots nothing was found yet.
pub record IsWaking (o : Origin) (done : List TraceSecond) (s : TraceSecond) (b : Beginning) (v : Values) (d : Devices)
    (waits : List Visit) (untold : List Slot) : Type 0 where
  pub within : RecordInSecond o done s (In 0) waits None [] v d
  pub began : within.b ≡ b
  pub starts : (went b.run.log done).before.running ≡ false
  pub is_now : within.from ≡ s.number / 60
  pub none : (slot : Slot) → Contains untold slot → found_in v.log s.number (In 0) slot ≡ []

-- the slots in which cards are judged as power is back, in their order
abbrev pub both_slots : List Slot
both_slots = Driver ∷ CoDriver ∷ []

-- POWER IS BACK: both slots are to be told of.
abbrev pub PowerWakes : (d e : Devices) → Type 0
PowerWakes d e = (o : Origin) (done : List TraceSecond) (s : TraceSecond) (supply : UnitPower) (v : Values)
    → (r : RecordBetweenSeconds o done supply v d) → MayPower supply v.next → s.number ≡ v.next → s.has_power ≡ true →
    (k : ℕ) (minutes : Kept) → (back : IsBack o done supply v d r k minutes e) →
    IsWaking o done s (begun_again o done supply v d r k back.leg e)
    (counted_from (odometer_found o r.travel.before back.leg) (begun_values k minutes v)) e
    (fresh true (slots_of v done)).entered both_slots
