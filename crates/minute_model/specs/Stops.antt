-- The seconds at speed 0 at the end of a list, and the selections in them.
use Rattle.std.specs.Prelude.{◌-◌, ◌==◌, nat_le, if◌then◌else◌, Bool, not, ◌&&◌, List, [], ◌∷◌, length, take, map}
use Rattle.std.specs.Prelude.{filter, flat_map}
use Rattle.std.specs.List.{list_any, list_all}
use Rattle.activity_codec.specs.Activity.{activity_of, same_slot, is_rest_or_available}
use Rattle.activity_codec.specs.declared.values.Activity.{Activity}
use Rattle.activity_codec.specs.declared.values.Pick.{Pick}
use Rattle.activity_codec.specs.declared.values.Slot.{Slot}
use Rattle.activity_codec.specs.declared.values.Slot.TheVariants.{Driver, CoDriver}
use Rattle.minute_model.specs.declared.TheConstants.{WAIT}
use Rattle.minute_model.specs.Second.{Second}

-- not moving
abbrev pub is_still : Second → Bool
is_still second = second.speed == 0

-- so is each of these seconds
abbrev pub all_still : List Second → Bool
all_still seconds = list_all is_still seconds

-- the seconds at speed 0 that these end with
abbrev pub last_still : List Second → List Second
last_still [] = []
last_still (second ∷ seconds) = if all_still (second ∷ seconds) then second ∷ seconds else last_still seconds

-- a slot's selections among these
abbrev pub picks_for : Slot → List (Slot × Pick) → List Pick
picks_for slot picks = map (λ p. p.1) (filter (λ p. same_slot slot p.0) picks)

-- the driver's selections in these seconds, in order
abbrev pub driver_picks : List Second → List Pick
driver_picks seconds = flat_map (λ second. picks_for Driver second.picks) seconds

-- and the co-driver's
abbrev pub codriver_picks : List Second → List Pick
codriver_picks seconds = flat_map (λ second. picks_for CoDriver second.picks) seconds

-- the last selection, or this activity where there is none
abbrev pub last_pick : Activity → List Pick → Activity
last_pick none [] = none
last_pick none (pick ∷ picks) = last_pick (activity_of pick) picks

-- rest or availability may still be selected for the stop that these seconds end with
abbrev pub waits : List Second → Bool
waits seconds = not (all_still seconds) && not (list_any is_rest_or_available (driver_picks (last_still seconds)))
    && nat_le (length (last_still seconds)) WAIT

-- the driver's seconds for which it may
abbrev pub open_of : List Second → List Second
open_of seconds = if waits seconds then last_still seconds else []

-- the ones before them
abbrev pub fixed_of : List Second → List Second
fixed_of seconds = take (length seconds - length (open_of seconds)) seconds
