-- The laws of a medium that doesn't tell its image.
use Rattle.std.specs.Prelude.{ℕ, Bool, List, [], None}
use Rattle.tach_media.specs.Medium.{State, IsCoherent}

-- the state of such a medium
abbrev pub untold_state : ℕ → List (ℕ × ℕ) → ℕ → Bool → ℕ → ℕ → State
untold_state size writable clock works faults
    breakdowns = record {
      size = size;
      behind = 0;
      writable = writable;
      image = None;
      may_leave = λ c. ⊥;
      left_since = λ t c. ⊥;
      clock = clock;
      works = works;
      faults = faults;
      breakdowns = breakdowns;
      broke = λ t n. ⊥;
      layers = [];
    }

-- a medium that tells no image is coherent
pub untold : (size : ℕ) (writable : List (ℕ × ℕ)) (clock : ℕ) (works : Bool) (faults breakdowns : ℕ)
    → IsCoherent (untold_state size writable clock works faults breakdowns)
untold size writable clock works faults breakdowns = record {
  sized = λ x is. cc;
  left_sized = λ c left. absurd left;
  is_left = λ x is. cc;
  only = λ x w left. absurd left;
  counts_now = λ t x le left. left;
  earlier = λ t u x le high left. left;
  broken = λ t n told. absurd told;
}
