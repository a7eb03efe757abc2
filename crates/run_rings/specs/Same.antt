-- Calls that leave the rings of insertions and places of a unit as they are (profile).
use Rattle.std.specs.Prelude.{◌≡◌, ℕ, List}
use Rattle.card_layout.specs.Images.{bytes_at}
use Rattle.tach_media.specs.Medium.{State}
use Rattle.gated_ring.specs.Ring.{size_of}
use Rattle.message_model.specs.Records.{insertion_ring, unit_place_ring}

-- both rings have the same bytes
pub record HasSameRings (x c : List ℕ) : Type 0 where
  pub insertions : bytes_at c insertion_ring.base (size_of insertion_ring)
      ≡ bytes_at x insertion_ring.base (size_of insertion_ring)
  pub places : bytes_at c unit_place_ring.base (size_of unit_place_ring)
      ≡ bytes_at x unit_place_ring.base (size_of unit_place_ring)

-- CALLS LEAVE BOTH RINGS as they are: each image that a stop may leave behind them has the rings of one before
abbrev pub LeavesRings : (old new : State) → Type 0
LeavesRings old new = (c : List ℕ) → new.may_leave c → (x : List ℕ) × old.may_leave x × HasSameRings x c
