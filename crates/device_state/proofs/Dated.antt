-- The values that are told lie on days that a time of four bytes can name.
use Rattle.std.proofs.Common.{◌≡◌, ℕ, ◌+◌, ◌*◌, ◌/◌, ◌<◌, true, Option, Some, None, Result, Ok, Err, List, [], ◌∷◌, ◌++◌, arith}
use Rattle.std.specs.Prelude.{◌==◌, nat_lt, max}
use Rattle.std.specs.List.{flat_map}
use Rattle.std.proofs.lemmas.Bool.Decides.{nat_tests}
use Rattle.activity_codec.proofs.ByTest.{by_test}
use Rattle.run_model.specs.declared.Device.{Device}
use Rattle.run_model.specs.declared.Device.TheVariants.{CardA, CardB}
use Rattle.card_files.specs.declared.vehicle.Vehicle.{Vehicle}
use Rattle.tacho_types.specs.declared.calendar.TheConstants.{DAYS}
use Rattle.card_validity.specs.declared.looking.CardLook.{CardLook}
use Rattle.unit_memory.specs.declared.fault.UnitFault.{UnitFault}
use Rattle.unit_memory.specs.declared.fault.UnitFault.TheVariants as unit
use Rattle.state_text.specs.declared.line.Line.{Line}
use Rattle.state_text.specs.declared.line.OwedTo.{OwedTo}
use Rattle.state_text.specs.declared.line.Value.{Value}
use Rattle.state_text.specs.declared.line.Value.TheVariants as value
use Rattle.state_text.specs.Lines.{day_of, AreDated}
use Rattle.device_state.specs.declared.card.CardFault.{CardFault}
use Rattle.device_state.specs.declared.card.CardFault.TheVariants as card
use Rattle.device_state.specs.declared.devices.DevicesTold.{DevicesTold}
use Rattle.device_state.specs.declared.unit.UnitTold.{UnitTold}
use Rattle.device_state.specs.declared.values.TheConstants.{FIRST_START, LAST_START}
use Rattle.device_state.specs.Values.{dated, minute_value, second_value, day_value, start_by, start_value, use_value, vehicle_value}
use Rattle.device_state.specs.Lines.{owed_line, vehicle_lines, time_lines, unit_lines, lines_of_unit, lines_of_card, state_lines}

below : (n k : ℕ) → nat_lt n k ≡ true → n < k
below n k is = grind (arith, nat_tests)

-- the first day is one
zero-below : 0 < DAYS
zero-below = omega arith

dated-value : (v : Value) → day_of (dated v) < DAYS
dated-value v = by_test (nat_lt (day_of v) DAYS) (λ is. rw is (below (day_of v) DAYS is)) (λ is. rw is zero-below)

dated-minute : (m : ℕ) → day_of (minute_value m) < DAYS
dated-minute m = by_test (m == 0) (λ is. rw is zero-below) (λ is. rw is (dated-value (value.Minute m)))

dated-second : (s : ℕ) → day_of (second_value s) < DAYS
dated-second s = by_test (s == 0) (λ is. rw is zero-below) (λ is. rw is (dated-value (value.Second s)))

dated-day : (o : Option ℕ) → day_of (day_value o) < DAYS
dated-day None = zero-below
dated-day (Some second) = dated-value (value.Day (second / 86400))

start-by : (start : ℕ) → day_of (start_by start) < DAYS
start-by start = by_test (nat_lt LAST_START start) (λ is. rw is zero-below) (λ is. rw is zero-below)

dated-start : (kept : ℕ) → day_of (start_value kept) < DAYS
dated-start kept = start-by (max FIRST_START (60 * (kept + 1)))

dated-use : (o : Option Vehicle) → day_of (use_value o) < DAYS
dated-use None = zero-below
dated-use (Some vehicle) = dated-second vehicle.last_use.0

dated-vehicle : (o : Option Vehicle) → day_of (vehicle_value o) < DAYS
dated-vehicle None = zero-below
dated-vehicle (Some vehicle) = zero-below

-- ---- lines

both : (xs ys : List Line) → AreDated xs → AreDated ys → AreDated (xs ++ ys)
both [] ys front behind = behind
both (x ∷ xs) ys front behind = (front.0, both xs ys front.1 behind)

dated-rows : (rows : List (Option OwedTo)) → AreDated (flat_map owed_line rows)
dated-rows [] = tt
dated-rows (None ∷ rows) = dated-rows rows
dated-rows (Some owed ∷ rows) = (zero-below, dated-rows rows)

dated-told : (told : UnitTold) → AreDated (unit_lines told)
dated-told told =
    both (vehicle_lines told ++ time_lines told) (flat_map owed_line told.owed)
    (both (vehicle_lines told) (time_lines told)
    (zero-below, (zero-below, (zero-below, (zero-below, (zero-below, (zero-below, (zero-below, tt)))))))
    (dated-minute told.kept, (dated-start told.kept, (dated-day told.days.first, (dated-day told.days.last, (zero-below, tt))))))
    (dated-rows told.owed)

dated-unit : (told : Result UnitTold UnitFault) → AreDated (lines_of_unit told)
dated-unit (Ok told) = dated-told told
dated-unit (Err unit.Failed) = (zero-below, tt)
dated-unit (Err (unit.BadUnit place)) = (zero-below, tt)

dated-card : (device : Device) (told : Result CardLook CardFault) → AreDated (lines_of_card device told)
dated-card device (Ok look) =
    (zero-below, (zero-below, (zero-below, (zero-below, (dated-use look.previous, (dated-vehicle look.previous, (dated-second look.session, (dated-minute look.newest_minute, tt))))))))
dated-card device (Err card.Failed) = (zero-below, tt)
dated-card device (Err (card.BadField field)) = (zero-below, tt)
dated-card device (Err (card.BadFile fid place)) = (zero-below, tt)

pub dated-lines : (told : DevicesTold) → AreDated (state_lines told)
dated-lines told =
    both (lines_of_unit told.unit ++ lines_of_card CardA told.card_a) (lines_of_card CardB told.card_b)
    (both (lines_of_unit told.unit) (lines_of_card CardA told.card_a) (dated-unit told.unit) (dated-card CardA told.card_a)) (dated-card CardB told.card_b)
