-- The vehicle entries of a card, all of them, in their order; and how one changes, or a new one comes (profile).
use Rattle.std.specs.Prelude.{ℕ, Bool, true, false, Option, Some, None, option_map, List, [], ◌∷◌, ◌++◌, map}
use Rattle.std.specs.Prelude.{if◌then◌else◌}
use Rattle.card_layout.specs.declared.files.Application.{Application}
use Rattle.card_files.specs.declared.vehicle.Vehicle.{Vehicle}
use Rattle.card_files.specs.Vehicles.{vehicle_of}
use Rattle.gated_ring.specs.Ring.{is_there, entry_at, order, taken}
use Rattle.card_validity.specs.card_image.Fields.{vehicle_ring, newest_vehicle, last_use_of}

-- THE VEHICLE ENTRIES OF A CARD: the newest one; and the places of its ring, from the one that the next entry takes
-- round to the one before it, None where no entry stands.
pub record Vehicles : Type 0 where
  pub newest : Option Vehicle
  pub ring : List (Option Vehicle)

-- what stands at a place of an image's ring
abbrev pub standing_at : Application → List ℕ → ℕ → Option Vehicle
standing_at app x i = if is_there (vehicle_ring app) x i then Some (vehicle_of (entry_at (vehicle_ring app) x i))
    else None

-- what stands at each of its places, from the one that the next entry takes on
unfoldable pub ring_round : Application → List ℕ → List (Option Vehicle)
ring_round app x = map (standing_at app x) (order (vehicle_ring app) (taken (vehicle_ring app) x))

-- the vehicle entries of an image
abbrev pub vehicles_of : Application → List ℕ → Vehicles
vehicles_of app x = record { newest = newest_vehicle app x; ring = ring_round app x }

-- those that stand, the oldest first
abbrev pub standing : List (Option Vehicle) → List Vehicle
standing [] = []
standing (None ∷ os) = standing os
standing (Some v ∷ os) = v ∷ standing os

-- when the newest one was last used, in seconds; 0 without one
abbrev pub last_use_in : Vehicles → ℕ
last_use_in v = last_use_of v.newest

-- some entry stands there
abbrev pub any_stands : List (Option Vehicle) → Bool
any_stands [] = false
any_stands (None ∷ os) = any_stands os
any_stands (Some v ∷ os) = true

-- THE LAST THAT STANDS there is changed so
abbrev pub on_newest : (Vehicle → Vehicle) → List (Option Vehicle) → List (Option Vehicle)
on_newest f [] = []
on_newest f (o ∷ os) = if any_stands os then o ∷ on_newest f os else option_map f o ∷ os

-- the vehicle entries, of which the newest is changed so
abbrev pub renewed : (Vehicle → Vehicle) → Vehicles → Vehicles
renewed f v = record { newest = option_map f v.newest; ring = on_newest f v.ring }

-- all but the first
abbrev pub behind_first : List (Option Vehicle) → List (Option Vehicle)
behind_first [] = []
behind_first (o ∷ os) = os

-- THE FIRST GIVES WAY: a new one stands behind all others
abbrev pub with_vehicle : Vehicle → Vehicles → Vehicles
with_vehicle w v = record { newest = Some w; ring = behind_first v.ring ++ Some w ∷ [] }

-- or is still to come
abbrev pub with_room : Vehicles → Vehicles
with_room v = record { newest = v.newest; ring = None ∷ behind_first v.ring }
