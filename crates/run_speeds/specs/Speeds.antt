-- What a unit carries of the blocks of detailed speed of a run (profile): in each image that a stop might have left of
-- it.
use Rattle.std.specs.Prelude.{◌≡◌, ◌⊎◌, ℕ, ◌≤◌, Bool, true, false, Option, IfSome, is_some, option_to_list, List, ◌++◌}
use Rattle.std.specs.List.{AllByRecursion}
use Rattle.tach_media.specs.card_layout.Images.{bytes_at}
use Rattle.tach_media.specs.Medium.{State}
use Rattle.speed_store.specs.gated_ring.Ring.{PointsInside, IsDense, size_of}
use Rattle.speed_store.specs.note_model.Rings.{Stand, AreNoFewer}
use Rattle.speed_store.specs.run_rings.Carried.{RingKeeps}
use Rattle.speed_store.specs.speed_model.declared.block.Block.{Block}
use Rattle.speed_store.specs.speed_model.Blocks.{block_bytes}
use Rattle.speed_store.specs.speed_model.Stored.{speed_ring, HoldsNewest}

-- an entry is a block
abbrev pub IsBlock : Block → List ℕ → Type 0
IsBlock b e = e ≡ block_bytes b

-- the pointer of an image's ring is an index
abbrev pub HasSpeedRing : List ℕ → Type 0
HasSpeedRing x = PointsInside speed_ring x

-- as if none of the blocks were sure
abbrev pub none_sure : Block → Bool
none_sure b = false

module _ (is_sure : Block → Bool) (start : List ℕ) where
  -- AN IMAGE CARRIES THESE BLOCKS behind those of the start, but for some that are not sure; blocks are gone only at
  -- the old end, and of a ring that was dense at the start only where it is full, or lacks one
  pub record CarriesBlocks (blocks : List Block) (x : List ℕ) : Type 0 where
    pub more : List (List ℕ)
    pub stand : Stand is_sure IsBlock blocks more
    pub carries : RingKeeps speed_ring start x more

  -- or the first of them
  pub record CarriesSome (blocks : List Block) (x : List ℕ) : Type 0 where
    pub front : List Block
    pub rest : List Block
    pub are : front ++ rest ≡ blocks
    pub carries : CarriesBlocks front x

  -- each of these is sure
  abbrev pub AreSure : List Block → Type 0
  AreSure blocks = AllByRecursion (λ b. is_sure b ≡ true) blocks

  -- A UNIT CARRIES THE BLOCKS OF A RUN so far: each image that a stop might have left since it began carries the first
  -- of them, each that it may leave now all of them; each block took the next place of the ring, whether it had a gap
  -- or none, so of those of the start none is gone but of these places (`far`, `few`); and where each is sure and the
  -- ring was dense at the start, that is the newest 1440.
  pub record HasSpeeds (began : ℕ) (blocks : List Block) (unit : State) : Type 0 where
    pub later : began ≤ unit.clock
    pub since : (x : List ℕ) → unit.left_since began x → CarriesSome blocks x
    pub now : (x : List ℕ) → unit.may_leave x → CarriesBlocks blocks x
    pub far : (x : List ℕ) → unit.left_since began x → AreNoFewer speed_ring none_sure blocks start x
    pub few : (x : List ℕ) → unit.may_leave x → AreNoFewer speed_ring is_sure blocks start x
    pub newest : IsDense speed_ring start → AreSure blocks
        → (x : List ℕ) → unit.may_leave x → HoldsNewest start x blocks

-- ---- all other calls

-- the ring has the same bytes
abbrev pub HasSameSpeeds : (x c : List ℕ) → Type 0
HasSameSpeeds x c = bytes_at c speed_ring.base (size_of speed_ring) ≡ bytes_at x speed_ring.base (size_of speed_ring)

-- CALLS LEAVE THE RING as it is, at each moment: each image that a stop may leave behind them, or might have left since
-- an earlier time, was left before, or has the ring of one that might be left then
pub record LeavesSpeeds (old new : State) : Type 0 where
  pub later : old.clock ≤ new.clock
  pub now : (c : List ℕ) → new.may_leave c → (x : List ℕ) × old.may_leave x × HasSameSpeeds x c
  pub since : (t : ℕ) (c : List ℕ) → t ≤ old.clock → new.left_since t c
      → old.left_since t c ⊎ ((x : List ℕ) × old.may_leave x × HasSameSpeeds x c)

-- ---- a block more

-- CALLS CARRY A BLOCK, if there is one, behind all that the unit carries; where one of them failed, a block that is not
-- sure
pub record CarriesBlock (block : Option Block) (failed : Bool) (old new : State) : Type 0 where
  pub later : old.clock ≤ new.clock
  pub carries : is_some old.image ≡ true → (is_sure : Block → Bool) (start : List ℕ) (began : ℕ) (blocks : List Block)
      → (failed ≡ true → IfSome block (λ b. is_sure b ≡ false)) →
      HasSpeeds is_sure start began blocks old → HasSpeeds is_sure start began (blocks ++ option_to_list block) new
