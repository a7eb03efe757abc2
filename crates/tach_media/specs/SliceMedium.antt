-- What a slice tells of itself as a medium.
use Rattle.std.specs.Prelude.{◌≡◌, ℕ, true, List, [], length, Some}
use Rattle.std.proofs.Common.{ap, arith}
use Rattle.tach_media.specs.Medium.{State, IsCoherent}

-- it works, no range of it may be written, and a stop leaves it as it is
abbrev pub slice_state : List ℕ → State
slice_state bytes = record {
  size = length bytes;
  behind = 0;
  writable = [];
  image = Some bytes;
  may_leave = λ c. Some bytes ≡ Some c;
  left_since = λ t c. Some bytes ≡ Some c;
  clock = 0;
  works = true;
  faults = 0;
  breakdowns = 0;
  broke = λ t n. n ≡ 0;
  layers = [];
}

-- a slice is a coherent medium
pub slice_coherent : (bytes : List ℕ) → IsCoherent (slice_state bytes)
slice_coherent bytes = record {
  sized = λ x is. let same : x
      ≡ bytes = cc in omega (arith, ap length same);
  left_sized = λ c left. let same : c
      ≡ bytes = cc in omega (arith, ap length same);
  is_left = λ x is. is;
  only = λ x works left. left;
  counts_now = λ t x le left. left;
  earlier = λ t u x le high left. left;
  broken = λ t n told. omega (arith, told);
}
