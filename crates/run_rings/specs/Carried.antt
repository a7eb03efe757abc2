-- What a ring of the unit carries of what a run adds to it, from entry to entry (profile).
use Rattle.std.specs.Prelude.{◌≡◌, ◌⊎◌, ℕ, ◌+◌, ◌≤◌, List, [], ◌++◌, length}
use Rattle.gated_ring.specs.Ring.{Shape, PointsInside, ring_list, IsDense}

-- A RING CARRIES what it showed at the start and these entries behind it, but for some at its old end. Where it was
-- dense at the start it is dense, so the next one takes the place of the oldest; and some are gone only where it is
-- full, or lacks one entry.
pub record RingKeeps (r : Shape) (start x : List ℕ) (more : List (List ℕ)) : Type 0 where
  pub points : PointsInside r x
  pub dense : IsDense r start → IsDense r x
  pub gone : List (List ℕ)
  pub shown : ring_list r start ++ more ≡ gone ++ ring_list r x
  pub full : IsDense r start → (gone ≡ []) ⊎ (r.count ≤ length (ring_list r x) + 1)
