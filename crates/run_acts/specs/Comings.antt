-- THE VEHICLE BEFORE of each insertion (profile): what the entries of the ring of insertions of a unit tell of it, one
-- after another, and what calls make of that.
use Rattle.std.specs.Prelude.{◌≡◌, ◌⊎◌, ℕ, ◌+◌, ◌≤◌, Option, Some, None, List, [], ◌++◌, length, map, replicate}
use Rattle.card_files.specs.card_layout.Fields.{field_at, number_in}
use Rattle.tach_media.specs.Medium.{State}
use Rattle.run_events.specs.gated_ring.Ring.{PointsInside, IsDense, ring_list}
use Rattle.run_events.specs.message_model.Records.{insertion_ring, insertion_widths}
use Rattle.card_files.specs.declared.vehicle.Vehicle.{Vehicle}

-- a vehicle and when it was last used, as an insertion tells them
pub record VehicleTold : Type 0 where
  pub registration : List ℕ
  pub time : ℕ

-- that of an entry in the ring of insertions
abbrev pub told_in : List ℕ → VehicleTold
told_in e = record { registration = field_at insertion_widths 9 e; time = number_in insertion_widths 10 e }

-- and of a card's newest vehicle entry: zeros, and time 0, where it has none
abbrev pub told_of : Option Vehicle → VehicleTold
told_of None = record { registration = replicate 15 0; time = 0 }
told_of (Some v) = record { registration = v.registration.0; time = v.last_use.0 }

-- those of all entries of an image of a unit, the newest last
abbrev pub vehicles_in : List ℕ → List VehicleTold
vehicles_in x = map told_in (ring_list insertion_ring x)

-- AN IMAGE TELLS MORE of them than another did, these, behind them: some may be gone at its old end, but it tells no
-- fewer. Where the ring of the other was dense it is so, and some are gone only where it is full, or lacks one entry.
pub record TellsMore (more : List VehicleTold) (start x : List ℕ) : Type 0 where
  pub points : PointsInside insertion_ring x
  pub dense : IsDense insertion_ring start → IsDense insertion_ring x
  pub gone : List VehicleTold
  pub shown : vehicles_in start ++ more ≡ gone ++ vehicles_in x
  pub full : IsDense insertion_ring start
      → (gone ≡ []) ⊎ (insertion_ring.count ≤ length (ring_list insertion_ring x) + 1)
  pub few : length (vehicles_in start) ≤ length (vehicles_in x)

-- CALLS MAKE A UNIT TELL MORE of them: each image that a stop may leave behind them does than one before
abbrev pub TellMore : List VehicleTold → (old new : State) → Type 0
TellMore more old new = (y : List ℕ) → new.may_leave y
    → (x : List ℕ) × old.may_leave x × (PointsInside insertion_ring x → TellsMore more x y)
