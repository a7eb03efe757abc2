-- What the ring of detailed speed holds in a unit's image (profile).
use Rattle.std.specs.Prelude.{◌≡◌, ℕ, List, ◌++◌, map}
use Rattle.unit_model.specs.Ring.{PointsInside, ring_list, IsDense, newest_of}
pub use Rattle.message_model.specs.Records.{speed_ring}
use Rattle.speed_model.specs.declared.block.TheConstants.{BLOCK_SLOTS}
use Rattle.speed_model.specs.declared.block.Block.{Block}
use Rattle.speed_model.specs.Blocks.{block_bytes}

-- THE BLOCKS OF AN IMAGE, oldest first
abbrev pub stored_blocks : List ℕ → List (List ℕ)
stored_blocks x = ring_list speed_ring x

-- AN IMAGE HOLDS THE NEWEST of the blocks that another began with and of these behind them
pub record HoldsNewest (start x : List ℕ) (more : List Block) : Type 0 where
  pub points : PointsInside speed_ring x
  pub dense : IsDense speed_ring x
  pub newest : stored_blocks x ≡ newest_of BLOCK_SLOTS (stored_blocks start ++ map block_bytes more)
