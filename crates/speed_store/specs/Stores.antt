-- What a store of detailed speed stands for.
use Rattle.std.specs.Prelude.{◌≡◌, ℕ, ◌+◌, min, Bool, List, length, filter, if◌then◌else◌}
use Rattle.std.specs.List.{range_with_len}
use Rattle.gated_ring.specs.Ring.{PointsInside, is_there, indices}
use Rattle.speed_model.specs.declared.block.TheConstants.{BLOCK_SLOTS}
use Rattle.speed_model.specs.Stored.{speed_ring}

-- how many blocks are there among the first n places
abbrev pub there_count : List ℕ → (n : ℕ) → ℕ
there_count x n = length (filter (is_there speed_ring x) (range_with_len 0 n))

-- A STORE OF SO MANY BLOCKS stands for an image: its pointer is an index, and so many blocks are there
pub record HoldsBlocks (count : ℕ) (x : List ℕ) : Type 0 where
  pub points : PointsInside speed_ring x
  pub count_is : count ≡ length (indices speed_ring x)

-- with one block more, which took another's place or not
abbrev pub with_one : (count : ℕ) → (used : Bool) → ℕ
with_one count used = if used then count else min (count + 1) BLOCK_SLOTS
