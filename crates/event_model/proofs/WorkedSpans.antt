-- Worked over speedings, driving without a card and power interruptions, computed on the definitions.
use Rattle.std.proofs.Common.{◌≡◌, ◌+◌, ◌/◌, true, false, Some, None, [], ◌∷◌, ◌++◌, refl}
use Rattle.event_model.specs.Spans.{overs_of, bares_of, gap_of, at_speed, all_bare}

-- 61 seconds at 100 km/h with limit 90, from 2010-03-01 00:00:00 to 00:01:00, then two seconds at rest
over_speeding_of_61_seconds : overs_of 90 (at_speed 0x4B8B0380 61 100 ++ at_speed 0x4B8B03BD 2 0)
    ≡ record { begin = 0x4B8B0380; end = 0x4B8B03BC; most = 100; average = 100 } ∷ []
unfolding overs_of
over_speeding_of_61_seconds = refl

-- 60 seconds are none
none_of_60_seconds : overs_of 90 (at_speed 0x4B8B0380 60 100 ++ at_speed 0x4B8B03BC 2 0) ≡ []
unfolding overs_of
none_of_60_seconds = refl

-- at the limit it is none; what has not ended is none yet
none_at_the_limit : overs_of 90 (at_speed 0x4B8B0380 90 90 ++ at_speed 0x4B8B03DA 61 91) ≡ []
unfolding overs_of
none_at_the_limit = refl

-- two in one span, the average rounded down: 61 seconds at 95 and one at 100, and 61 seconds at 200
two_over_speedings : overs_of 90 (at_speed 86400 61 95 ++ at_speed 86461 1 100 ++ at_speed 86462 1 90 ++ at_speed 86463 61 200 ++ at_speed 86524 1 0)
    ≡ record { begin = 86400; end = 86461; most = 100; average = 95 } ∷ record { begin = 86463; end = 86523; most = 200; average = 200 } ∷ []
unfolding overs_of
two_over_speedings = refl

-- 60 seconds of driving without a card
driving_without_a_card : bares_of (all_bare 0x4B8B0380 60 true ++ all_bare 0x4B8B03BC 1 false)
    ≡ record { begin = 0x4B8B0380; end = 0x4B8B03BB } ∷ []
unfolding bares_of
driving_without_a_card = refl

-- what goes on has not ended
still_driving : bares_of (all_bare 0x4B8B0380 60 true) ≡ []
unfolding bares_of
still_driving = refl

-- minute 7 was kept, and power came back at the 1200th second
power_interruption : gap_of (0x4B8B0380 / 60 + 7) (0x4B8B0380 + 1200)
    ≡ Some (record { begin = 0x4B8B0380 + 480; end = 0x4B8B0380 + 1200 })
power_interruption = refl

nothing_kept : gap_of 0 0x4B8B0380 ≡ None
nothing_kept = refl
