-- The blocks of detailed speed of a power span, by its seconds (Annex IB, section III.12; profile).
use Rattle.std.specs.Prelude.{ℕ, ◌/◌, ◌==◌, ◌&&◌, Bool, false, Option, Some, None, List, [], ◌∷◌, ◌++◌, length, fold}
use Rattle.std.specs.Prelude.{flat_map, nat_lt, if◌then◌else◌}
use Rattle.std.specs.List.{filter_map, list_any}
use Rattle.std.specs.Int.{to_be_bytes, w32}
use Rattle.event_model.specs.Spans.{SpeedSecond, first_of, numbers, speeds}
use Rattle.speed_model.specs.declared.block.Block.{Block}

-- the number of the minute that a second lies in
abbrev pub minute_of : SpeedSecond → ℕ
minute_of s = s.number / 60

-- a second lies in the minute of these
abbrev pub lies_in : List SpeedSecond → SpeedSecond → Bool
lies_in [] s = false
lies_in (t ∷ ts) s = minute_of t == minute_of s

-- one second more: the last minute goes on, or a new one begins
abbrev pub with_second : List (List SpeedSecond) → SpeedSecond → List (List SpeedSecond)
with_second [] s = (s ∷ []) ∷ []
with_second (minute ∷ []) s = if lies_in minute s then (minute ++ s ∷ []) ∷ [] else minute ∷ (s ∷ []) ∷ []
with_second (minute ∷ next ∷ minutes) s = minute ∷ with_second (next ∷ minutes) s

-- the seconds of a span, minute by minute
abbrev pub minutes_of : List SpeedSecond → List (List SpeedSecond)
minutes_of seconds = fold with_second [] seconds

-- a speed above 0 is among these
abbrev pub is_moving : List ℕ → Bool
is_moving speeds = list_any (λ speed. nat_lt 0 speed) speeds

-- the block of a minute that has all its seconds, and a moving one among them
abbrev pub block_of : List SpeedSecond → Option Block
block_of minute =
    if length minute == 60 && is_moving (speeds minute)
    then Some (record { time = first_of (numbers minute); speeds = speeds minute })
    else None

-- THE BLOCKS OF A SPAN: one for each minute that has all its seconds in the span and a moving one among them
unfoldable pub blocks_of : List SpeedSecond → List Block
blocks_of seconds = filter_map block_of (minutes_of seconds)

-- the blocks of a run: those of its spans, in their order
unfoldable pub blocks_in : List (List SpeedSecond) → List Block
blocks_in spans = flat_map blocks_of spans

-- a block in bytes: its time, and its speeds
abbrev pub block_bytes : Block → List ℕ
block_bytes b = to_be_bytes w32 b.time ++ b.speeds
