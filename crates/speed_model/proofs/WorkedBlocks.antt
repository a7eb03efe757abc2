-- Worked blocks of detailed speed, computed on the definitions.
use Rattle.std.proofs.Common.{◌≡◌, [], ◌∷◌, ◌++◌, replicate, refl}
use Rattle.event_model.specs.Spans.{at_speed}
use Rattle.speed_model.specs.Blocks.{blocks_of, blocks_in}

-- a minute from 2010-03-01 00:00:00 on with one moving second, and half a minute of another span
one_moving_second : blocks_in ((at_speed 0x4B8B0380 30 0 ++ at_speed 0x4B8B039E 1 20 ++ at_speed 0x4B8B039F 29 0) ∷ at_speed 0x4B8B03F8 30 5 ∷ [])
    ≡ record { time = 0x4B8B0380; speeds = replicate 30 0 ++ 20 ∷ replicate 29 0 } ∷ []
unfolding blocks_in blocks_of
one_moving_second = refl

-- a span that begins in a minute has no block of that minute, nor of the one in which it ends
whole_minutes_alone : blocks_of (at_speed 0x4B8B0381 178 50)
    ≡ record { time = 0x4B8B03BC; speeds = replicate 60 50 } ∷ []
unfolding blocks_of
whole_minutes_alone = refl

-- a standing minute between two moving ones has none
none_of_a_standing_minute : blocks_of (at_speed 86400 60 50 ++ at_speed 86460 60 0 ++ at_speed 86520 60 1)
    ≡ record { time = 86400; speeds = replicate 60 50 } ∷ record { time = 86520; speeds = replicate 60 1 } ∷ []
unfolding blocks_of
none_of_a_standing_minute = refl

-- a minute that two spans share has none, though each of its seconds has power
none_of_a_shared_minute : blocks_in (at_speed 86400 90 50 ∷ at_speed 86490 90 50 ∷ [])
    ≡ record { time = 86400; speeds = replicate 60 50 } ∷ record { time = 86520; speeds = replicate 60 50 } ∷ []
unfolding blocks_in blocks_of
none_of_a_shared_minute = refl
