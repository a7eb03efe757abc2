-- What the speeds that are kept of a minute stand for.
use Rattle.std.specs.Prelude.{◌≡◌, ℕ, ◌+◌, ◌-◌, ◌/◌, ◌%◌, ◌<◌, ◌≤◌, ◌==◌, ◌&&◌, nat_lt, Option, Some, None, List, []}
use Rattle.std.specs.Prelude.{◌∷◌, ◌++◌, length, replicate, if◌then◌else◌}
use Rattle.std.specs.List.{AllByRecursion}
use Rattle.event_model.specs.Spans.{SpeedSecond, InARow, numbers, speeds}
use Rattle.speed_model.specs.declared.block.Block.{Block}
use Rattle.speed_model.specs.Blocks.{minute_of, minutes_of, is_moving}

-- these minutes, and one that goes on, if it has a second
abbrev pub with_going : List (List SpeedSecond) → List SpeedSecond → List (List SpeedSecond)
with_going over [] = over
with_going over (s ∷ going) = over ++ (s ∷ going) ∷ []

-- seconds of a minute before this one
abbrev pub IsEarlier : (minute : ℕ) → List SpeedSecond → Type 0
IsEarlier minute [] = Unit {0}
IsEarlier minute (s ∷ seconds) = minute_of s < minute

-- THE SPEEDS THAT ARE KEPT stand for these seconds of a span, behind which this one comes next: they are those of its
-- minute
pub record KeepsSpeedsOf (kept : List ℕ) (seconds : List SpeedSecond) (next : ℕ) : Type 0 where
  pub over : List (List SpeedSecond)
  pub going : List SpeedSecond
  pub minutes_are : minutes_of seconds ≡ with_going over going
  pub earlier : AllByRecursion (IsEarlier (next / 60)) over
  pub here : AllByRecursion (λ (s : SpeedSecond). minute_of s ≡ next / 60) going
  pub row : InARow (next - length going) (numbers going)
  pub few : length going ≤ next % 60
  pub kept_are : speeds going ≡ kept

-- this second follows those before
abbrev pub Follows : (kept : List ℕ) → (next : ℕ) → Type 0
Follows kept next = (seconds : List SpeedSecond) × KeepsSpeedsOf kept seconds next

-- the block of a minute that began at this second and of which these speeds are kept: where they are all, and one is
-- moving
abbrev pub block_in : (time : ℕ) → (kept : List ℕ) → Option Block
block_in time kept = if length kept == 60 && is_moving kept then Some (record { time = time; speeds = kept }) else None

-- the block of the minute that ends with n seconds more at one speed
abbrev pub block_at : (kept : List ℕ) → (next n speed : ℕ) → Option Block
block_at kept next n speed = if nat_lt (next % 60 + n) 60 then None
    else block_in (next + n - 60) (kept ++ replicate n speed)
