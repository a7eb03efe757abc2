-- How many writes the watch over a span's seconds begins at most on a unit (profile).
use Rattle.std.specs.Prelude.{ℕ}

-- a block of detailed speed is added
abbrev pub block_most : ℕ
block_most = 5

-- driving without a card is noted
abbrev pub bare_most : ℕ
bare_most = 4

-- an over speeding is noted, with the first one and their number
abbrev pub fast_most : ℕ
fast_most = 6

-- what has ended of both is noted
abbrev pub ended_most : ℕ
ended_most = 10

-- A TURN of seconds: those for a block, and those for what has ended
abbrev pub watch_most : ℕ
watch_most = 15
