-- Power comes back in a run with cards (profile): how a second begins with it, or how it fails.
use Rattle.std.specs.Prelude.{◌≡◌, ℕ, ◌/◌, true, None, List, [], ◌∷◌, ◌++◌, length}
use Rattle.run_devices.specs.trace_model.declared.Card.{Card}
use Rattle.run_devices.specs.trace_model.Trace.{TraceSecond}
use Rattle.run_devices.specs.run_model.declared.Device.TheVariants.{Unit as Recorder}
use Rattle.minute_rules.specs.Kept.{Kept, CountsSpan}
use Rattle.run_devices.specs.log_model.Log.{In}
use Rattle.run_devices.specs.log_model.Causes.{RoseBy}
use Rattle.run_devices.specs.log_model.Course.{fresh}
use Rattle.run_devices.specs.history_model.Book.{found}
use Rattle.run_devices.specs.run_unit_course.Lines.{found_from}
use Rattle.run_devices.specs.run_unit_course.Followed.{UnitPower, Lost, MayPower}
use Rattle.run_devices.specs.run_unit_course.Legs.{resumed}
use Rattle.run_devices.specs.run_unit_course.Travelled.{MayShow}
use Rattle.run_devices.specs.run_unit_course.Turn.{span_at}
use Rattle.run_devices.specs.unit_model.Image.{last_kept, odometer_at}
use Rattle.run_devices.specs.unit_rule.Odometer.{HasTravelled, odometer_after}
use Rattle.run_devices.specs.safety_model.Safe.{Devices, card_of, breakdowns_of}
use Rattle.run_devices.specs.run_promise.Found.{found_of}
use Rattle.run_devices.specs.run_promise.Cards.{IsUntouched}
use Rattle.run_devices.specs.run_course.Telling.{IsMore}
use Rattle.run_devices.specs.Told.{all_out, DevicesPowered, DevicesUnpowered}
use Rattle.run_devices.specs.run_promise.Origin.{Origin, rule_of, first_of}
use Rattle.run_devices.specs.run_promise.Beside.{HaveLeftMore}
use Rattle.run_devices.specs.run_promise.Seconds.{found_again}
use Rattle.run_record.specs.Recorded.{Values, progress, carried, slots_of, AreThere, RecordBetweenSeconds}
use Rattle.run_record.specs.Within.{Beginning, SecondGoesOn, RecordAtFailure, cut_values}

-- what a run has by value once its unit was read: of the cuts since it was read before it is known what was kept
abbrev pub read_values : (k : ℕ) → Values → Values
read_values k v = record v {
  log = record v.log { breaks = found_from v.unfound k v.log.breaks };
  unfound = length (found_from v.unfound k v.log.breaks);
}

-- what a run has by value once its unit was read and a span begins, for which these minutes stand
abbrev pub begun_values : (k : ℕ) → Kept → Values → Values
begun_values k minutes v = record (read_values k v) { minutes = minutes }

-- the odometer that a unit shows as power is back: that of the start, with the legs before and the one up to which it
-- was counted
abbrev pub odometer_found : Origin → (before : List ℕ) → (leg : ℕ) → ℕ
odometer_found o before leg = odometer_after (odometer_at o.recording.unit) (before ++ leg ∷ [])

-- a run by value whose minutes are counted from this odometer
abbrev pub counted_from : ℕ → Values → Values
counted_from odometer v = record v { odometer = odometer }

-- what a power-on leaves of the devices, however it ended: no card has broken down, what they might have left before
-- they might have left still, and a card that was as at the start is so
pub record GoOn (o : Origin) (d e : Devices) : Type 0 where
  pub breakdowns : IsMore (breakdowns_of d) (breakdowns_of e)
  pub left : HaveLeftMore o d e
  pub there : AreThere o.found d → AreThere o.found e
  pub untouched : (c : Card) → IsUntouched (found_of o.found c) (card_of d c)
      → IsUntouched (found_of o.found c) (card_of e c)

-- what was read as the last-kept minute stands in an image that the unit might have left
abbrev pub WasRead : Origin → ℕ → Devices → Type 0
WasRead o k e = (x : List ℕ) × e.unit.left_since o.found.unit.began x × (last_kept x ≡ k)

-- THE UNIT WAS READ AND MENDED: it showed this last-kept minute, and an odometer of this leg; no card is accepted.
pub record IsBack (o : Origin) (done : List TraceSecond) (supply : UnitPower) (v : Values) (d : Devices)
    (r : RecordBetweenSeconds o done supply v d) (k : ℕ) (minutes : Kept) (e : Devices) : Type 0 where
  pub leg : ℕ
  pub shows : MayShow (first_of o) r.book r.travel k leg
  pub read : WasRead o k e
  pub stands : CountsSpan minutes (span_at (rule_of o) v.next [])
  pub powered : DevicesPowered o.found (all_out
      (carried (begun_values k minutes v) r.due (found k r.book) r.standing r.brought r.hands r.firsts)) v.cabin.cards e
  pub goes : GoOn o d e
  pub travels : HasTravelled (odometer_at o.recording.unit) (found k r.book) (resumed leg r.travel) e.unit

-- how a second begins with which power is back
abbrev pub begun_again : (o : Origin) (done : List TraceSecond) (supply : UnitPower) (v : Values) (d : Devices)
    → RecordBetweenSeconds o done supply v d → (k leg : ℕ) (e : Devices) → Beginning
begun_again o done supply v d r k leg e = record {
  run = found_again k (progress v supply r.book);
  span = [];
  travel = resumed leg r.travel;
  marks = v.marks;
  broken = breakdowns_of e;
  brought = r.brought;
}

-- POWER IS BACK: the second begins with it, and each card in a slot waits to be judged anew.
abbrev pub PowerIsBack : (d e : Devices) → Type 0
PowerIsBack d e = (o : Origin) (done : List TraceSecond) (s : TraceSecond) (supply : UnitPower) (v : Values)
    → (r : RecordBetweenSeconds o done supply v d) → MayPower supply v.next → s.number ≡ v.next → s.has_power ≡ true →
    (k : ℕ) (minutes : Kept) → (back : IsBack o done supply v d r k minutes e) →
    SecondGoesOn o done s (In 0) (fresh true (slots_of v done)).entered None []
    (counted_from (odometer_found o r.travel.before back.leg) (begun_values k minutes v)) e
    (begun_again o done supply v d r k back.leg e) (s.number / 60)

-- THE UNIT WAS READ, and its mending failed: it showed this last-kept minute and an odometer of this leg, and it broke
-- down once more.
pub record IsOnlyRead (o : Origin) (done : List TraceSecond) (supply : UnitPower) (v : Values) (d : Devices)
    (r : RecordBetweenSeconds o done supply v d) (k : ℕ) (e : Devices) : Type 0 where
  pub leg : ℕ
  pub shows : MayShow (first_of o) r.book r.travel k leg
  pub read : WasRead o k e
  pub powerless : DevicesUnpowered o.found
      (carried (read_values k v) r.due (found k r.book) r.standing r.brought r.hands r.firsts) e
  pub broke : RoseBy 1 (breakdowns_of d Recorder) (breakdowns_of e Recorder)
  pub goes : GoOn o d e
  pub travels : HasTravelled (odometer_at o.recording.unit) (found k r.book) (resumed leg r.travel) e.unit

-- So the record is in the power-on of the second: power is to be cut.
abbrev pub AMendingFails : (d e : Devices) → Type 0
AMendingFails d e = (o : Origin) (done : List TraceSecond) (s : TraceSecond) (supply : UnitPower) (v : Values)
    → (r : RecordBetweenSeconds o done supply v d) → MayPower supply v.next → s.number ≡ v.next → s.has_power ≡ true →
    (k : ℕ) → (read : IsOnlyRead o done supply v d r k e)
    → RecordAtFailure o done s (In 0) (fresh true (slots_of v done)).entered None
    (counted_from (odometer_found o r.travel.before read.leg) (read_values k v)) e

-- THE UNIT WAS NOT READ, since a call failed: nothing is found.
pub record IsNotRead (o : Origin) (done : List TraceSecond) (supply : UnitPower) (v : Values) (d : Devices)
    (r : RecordBetweenSeconds o done supply v d) (e : Devices) : Type 0 where
  pub powerless : DevicesUnpowered o.found (carried v r.due r.book r.standing r.brought r.hands r.firsts) e
  pub broke : RoseBy 1 (breakdowns_of d Recorder) (breakdowns_of e Recorder)
  pub goes : GoOn o d e
  pub travels : HasTravelled (odometer_at o.recording.unit) r.book r.travel e.unit

-- So the second is recorded as a cut's, and power is lost behind it.
abbrev pub AReadingFails : (d e : Devices) → Type 0
AReadingFails d e = (o : Origin) (done : List TraceSecond) (s : TraceSecond) (supply : UnitPower) (v : Values)
    → (r : RecordBetweenSeconds o done supply v d) → MayPower supply v.next → s.number ≡ v.next → s.has_power ≡ true →
    IsNotRead o done supply v d r e → RecordBetweenSeconds o (done ++ s ∷ []) Lost (cut_values s (In 0) v) e
