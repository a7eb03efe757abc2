-- The block of a number, the oldest first.
use Rattle.std.specs.Prelude.{◌≡◌, ℕ, ◌+◌, ◌-◌, ◌<◌, ◌==◌, nat_lt, Bool, List, length, get_or, if◌then◌else◌}
use Rattle.card_layout.specs.Images.{bytes_at}
use Rattle.gated_ring.specs.Ring.{number_at, gate_of}
use Rattle.speed_model.specs.declared.block.TheConstants.{BLOCK_SLOTS}
use Rattle.speed_model.specs.declared.block.Block.{Block}
use Rattle.speed_model.specs.Stored.{speed_ring}
use Rattle.speed_store.specs.declared.finding.Found.{Found}

-- the index after the pointer, round the end
abbrev pub after : (pointer : ℕ) → ℕ
after pointer = if nat_lt pointer 1439 then pointer + 1 else 0

-- and the one so many steps behind an index
abbrev pub turned : (first step : ℕ) → ℕ
turned first step = if nat_lt (first + step) BLOCK_SLOTS then first + step else first + step - BLOCK_SLOTS

-- one place more, with a block there or without
abbrev pub picked : Found → (there : Bool) → (index : ℕ) → Found
picked found there index = if there
    then record { left = found.left - 1; index = if found.left == 1 then index else found.index } else found

-- so many blocks are to come, with the one of this number; and where it is among those so far, it stands at this index
pub record IsFound (nth : ℕ) (so_far : List ℕ) (found : Found) : Type 0 where
  pub left : found.left ≡ nth + 1 - length so_far
  pub index : nth < length so_far → found.index ≡ get_or so_far nth 0

-- THE BLOCK AT AN INDEX of an image
pub record IsBlockAt (x : List ℕ) (index : ℕ) (b : Block) : Type 0 where
  pub time : b.time ≡ number_at x (gate_of speed_ring index) 4
  pub speeds : b.speeds ≡ bytes_at x (gate_of speed_ring index + 4) 60
