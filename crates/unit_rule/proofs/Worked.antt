-- Odometers worked out.
use Rattle.std.proofs.Common.{◌≡◌, [], ◌∷◌, refl}
use Rattle.unit_rule.specs.Odometer.{odometer_by, odometer_after}

-- an hour at 50 km/h less the last minute, and then another kilometre
an_hour : odometer_by 12 177000 ≡ 61
an_hour = refl

-- two halves that power parted are no whole kilometre
two_halves : odometer_after 12 (1800 ∷ 1800 ∷ []) ≡ 12
two_halves = refl

in_one : odometer_after 12 (3600 ∷ []) ≡ 13
in_one = refl

-- it stays at the highest
at_the_highest : odometer_after 9999998 (36000 ∷ 3600 ∷ []) ≡ 9999999
at_the_highest = refl
