-- The block of a minute that ends with some seconds, and what adding it leaves of a unit (profile).
use Rattle.std.specs.Prelude.{◌≡◌, ◌⊎◌, ℕ, ◌+◌, ◌<◌, Bool, false, Option, Some, None, IfSome, option_to_list, List}
use Rattle.std.specs.Prelude.{◌++◌, true}
use Rattle.tach_media.specs.Medium.{State, LeavesOnly}
use Rattle.gated_ring.specs.Ring.{PointsInside, IsAtPointer}
use Rattle.gated_ring.specs.Change.{IsAdding, IsAdded}
use Rattle.event_model.specs.Spans.{SpeedSecond, at_speed}
use Rattle.speed_model.specs.declared.block.Block.{Block}
use Rattle.speed_model.specs.declared.block.TheConstants.{BLOCK_SLOTS}
use Rattle.speed_model.specs.Blocks.{blocks_of, block_bytes}
use Rattle.speed_model.specs.Stored.{speed_ring}
use Rattle.speed_store.specs.Feeding as minute
use Rattle.run_speeds.specs.Speeds.{CarriesBlock}
use Rattle.run_crew.specs.declared.cards.Crew.{Crew}
use Rattle.run_events.specs.declared.watch.Ended.{Ended}
use Rattle.run_events.specs.declared.watch.Watch.{Watch}
use Rattle.run_events.specs.Noting.{AreNoted, AreBeingNoted, IsFed}
use Rattle.unit_model.specs.Image.{IsUnit}

-- THE NEWEST BLOCK IS KNOWN, where a span has added one: it stands at the pointer of the unit's ring, which is an index
-- before that too
abbrev pub KnowsNewest : Option ℕ → State → Type 0
KnowsNewest None unit = IfSome unit.image (PointsInside speed_ring)
KnowsNewest (Some index) unit = (index < BLOCK_SLOTS) × IfSome unit.image (IsAtPointer speed_ring index)

-- the block is added, where there is one
abbrev pub IsBlockPut : Option Block → List ℕ → List ℕ → Type 0
IsBlockPut None x y = y ≡ x
IsBlockPut (Some b) x y = IsAdded speed_ring (block_bytes b) x y

-- a moment of adding a block
abbrev pub IsPuttingBlock : Option Block → List ℕ → List ℕ → Type 0
IsPuttingBlock None x c = c ≡ x
IsPuttingBlock (Some b) x c = IsAdding speed_ring (block_bytes b) x c

-- behind the block, what has ended is noted
pub record AreNotedBehind (block : Option Block) (ended : Ended) (x y : List ℕ) : Type 0 where
  pub between : List ℕ
  pub put : IsBlockPut block x between
  pub noted : AreNoted ended between y

-- the block is added, and what has ended is being noted behind it
pub record AreNotedOn (block : Option Block) (ended : Ended) (x c : List ℕ) : Type 0 where
  pub between : List ℕ
  pub put : IsBlockPut block x between
  pub noting : AreBeingNoted ended between c

-- a moment of both: the block is being added, or it is and what has ended is being noted
abbrev pub AreBeingNotedBehind : Option Block → Ended → List ℕ → List ℕ → Type 0
AreBeingNotedBehind block ended x c = IsPuttingBlock block x c ⊎ AreNotedOn block ended x c

-- n seconds at one speed were fed, numbered from `first` on: the block of the minute that ends with them
pub record IsMinuteFed (old new : List ℕ) (first n speed : ℕ) (block : Option Block) : Type 0 where
  pub stands : (seconds : List SpeedSecond) → minute.KeepsSpeedsOf old seconds first
      → minute.KeepsSpeedsOf new (seconds ++ at_speed first n speed) (first + n)
  pub blocks : (seconds : List SpeedSecond) → minute.KeepsSpeedsOf old seconds first
      → blocks_of (seconds ++ at_speed first n speed) ≡ blocks_of seconds ++ option_to_list block

-- N SECONDS WERE WATCHED: the block of the minute that ends with them is added, and then what has ended with the second
-- before is noted. The unit carries the block behind those of before.
pub record IsWatchedOn (failed : Bool) (old new : Watch) (first n speed : ℕ) (crew : Crew) (prior unit : State) : Type
    0 where
  pub ended : Ended
  pub block : Option Block
  pub fed : IsFed old new first n speed crew ended
  pub minute_fed : IsMinuteFed old.speeds new.speeds first n speed block
  pub last : IfSome block (λ b. b.time + 60 ≡ first + n)
  pub noted : failed ≡ false → IfSome prior.image (λ x. IfSome unit.image (AreNotedBehind block ended x))
  pub moments : LeavesOnly prior unit (AreBeingNotedBehind block ended)
  pub speeds : CarriesBlock block failed prior unit

-- THE UNIT MAY BE TOLD of seconds: it is one, and works; and the newest block is the one that is known
pub record UnitMayBeTold (known : Option ℕ) (U : State) : Type 0 where
  pub unit : IsUnit U
  pub works : U.works ≡ true
  pub newest : KnowsNewest known U
