-- Sums of speeds.
use Rattle.std.proofs.Common.{ℕ, ◌+◌, ◌*◌, ◌/◌, ◌<◌, ◌≤◌, arith}
use Rattle.std.proofs.lemmas.Nat.{mul-le, div_below}

-- speeds of at most 255 km/h
pub sum_fits : (sum seconds n speed : ℕ) → sum ≤ 255 * seconds → speed ≤ 255 → sum + n * speed ≤ 255 * (seconds + n)
sum_fits sum seconds n speed h most = let m : n * speed ≤ n * 255 = mul-le n speed n 255 (omega arith) most in omega (arith, m)

-- an average is no higher than all of them
pub average_fits : (sum seconds : ℕ) → 0 < seconds → sum ≤ 255 * seconds → sum / seconds < 256
average_fits sum seconds some h = let less : sum < 256 * seconds = omega arith in div_below sum seconds 256 some less
