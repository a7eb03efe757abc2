-- A list at one of its places.
use Rattle.std.proofs.Common.{◌≡◌, ℕ, ◌<◌, List, [], ◌∷◌, ◌++◌, length, refl, ap, arith, length-append}
use Rattle.std.specs.Prelude.{slice_index_or, slice_set}

-- the entry behind some others
pub at-seam : {X : Type 0} (front back : List X) (c d : X) (i : ℕ) → length front ≡ i → slice_index_or (front ++ c ∷ back) i d ≡ c
at-seam [] back c d i e = rw (← e) refl
at-seam (f ∷ front) back c d i e = rw (← e) (at-seam front back c d (length front) refl)

pub set-seam : {X : Type 0} (front back : List X) (c x : X) (i : ℕ) → length front ≡ i → slice_set (front ++ c ∷ back) i x ≡ front ++ x ∷ back
set-seam [] back c x i e = rw (← e) refl
set-seam {X} (f ∷ front) back c x i e = rw (← e) (ap (λ (ys : List X). f ∷ ys) (set-seam front back c x (length front) refl))

-- what is left has a first entry
pub first-left : {X : Type 0} (front back whole : List X) (i : ℕ) → whole ≡ front ++ back → length front ≡ i → i < length whole → (c : X) × (rest : List X) × (back ≡ c ∷ rest)
first-left front [] whole i is long lt = absurd (omega (arith, lt, ap length is, length-append front [], long))
first-left front (c ∷ rest) whole i is long lt = (c, rest, refl)
