-- What stands for a card where a trace has no line of one: a memory of zeros (profile).
use Rattle.std.specs.Prelude.{◌≡◌, ℕ, Bool, not, List, [], ◌∷◌, Some, length, replicate, if◌then◌else◌}
use Rattle.std.proofs.Common.{⊎_elim, ap, subst, arith}
use Rattle.std.proofs.lemmas.Bool.{cases_lt}
use Rattle.std.proofs.lemmas.List.{length-replicate, get_or-replicate, get_or_past}
use Rattle.card_layout.specs.Fields.{IsBytes}
use Rattle.card_layout.specs.declared.files.TheConstants.{LARGEST_IMAGE}
use Rattle.tach_media.specs.Medium.{State, IsCoherent, HoldsBytes, last_count}

-- so many zeros
unfoldable pub zeros : ℕ → List ℕ
zeros n = replicate n 0

-- the image of no card, that of a card's file that was made anew: no valid card's
abbrev pub no_image : List ℕ
no_image = zeros LARGEST_IMAGE

-- What it tells of itself. Each write fails, and the first one breaks it for good: the clock and both counts say so
-- from then on.
abbrev pub blank_state : (broken : Bool) → State
blank_state broken = record {
  size = LARGEST_IMAGE;
  behind = 0;
  writable = (0, LARGEST_IMAGE) ∷ [];
  image = Some no_image;
  may_leave = λ c. no_image ≡ c;
  left_since = λ t c. no_image ≡ c;
  clock = if broken then 1 else 0;
  works = not broken;
  faults = if broken then last_count else 0;
  breakdowns = if broken then last_count else 0;
  broke = λ t n. ⊥;
  layers = [];
}

length-zeros : (n : ℕ) → length (zeros n) ≡ n
unfolding zeros
length-zeros n = length-replicate n 0

zeros-bytes : (n : ℕ) → IsBytes (zeros n)
unfolding zeros
zeros-bytes n i = ⊎_elim (λ inside. omega (arith, get_or-replicate {A = ℕ} n i 0 0 inside))
    (λ past. omega (arith, get_or_past {X = ℕ} (replicate n 0) i 0 (omega (arith, past, length-replicate {A = ℕ} n 0))))
    (cases_lt i n)

pub blank_bytes : (broken : Bool) → HoldsBytes (blank_state broken)
blank_bytes broken = record {
  told = λ x is. let same : no_image ≡ x = cc in subst IsBytes same (zeros-bytes LARGEST_IMAGE);
  now = λ c left. subst IsBytes left (zeros-bytes LARGEST_IMAGE);
  since = λ t c left. subst IsBytes left (zeros-bytes LARGEST_IMAGE);
}

pub blank_coherent : (broken : Bool) → IsCoherent (blank_state broken)
blank_coherent broken = record {
  sized = λ x is. let same : x ≡ no_image = cc in omega (arith, ap length same, length-zeros LARGEST_IMAGE);
  left_sized = λ c left. omega (arith, ap length left, length-zeros LARGEST_IMAGE);
  is_left = λ x is. cc;
  only = λ x works left. ap Some left;
  counts_now = λ t x le left. left;
  earlier = λ t u x le high left. left;
  broken = λ t n told. absurd told;
}
