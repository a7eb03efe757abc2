-- The words, one after another.
use Rattle.std.proofs.Common.{◌≡◌, ℕ, List, [], ◌∷◌, length, refl, arith}
use Rattle.std.specs.Prelude.{Some, None, slice_get}
use Rattle.tacho.specs.Forms.{form_of}

pub one-word : (words : List (List ℕ)) (a : List ℕ) → length words ≡ 1 → slice_get words 0 ≡ Some a → words ≡ a ∷ []
one-word (p ∷ []) a n at_0 = cc
one-word [] a n at_0 = absurd (cc)
one-word (p ∷ q ∷ words) a n at_0 = absurd (omega (arith, n))

pub two-words : (words : List (List ℕ)) (a b : List ℕ) → length words ≡ 2 → slice_get words 0 ≡ Some a → slice_get words 1 ≡ Some b → words ≡ a ∷ b ∷ []
two-words (p ∷ q ∷ []) a b n at_0 at_1 = cc
two-words [] a b n at_0 at_1 = absurd (cc)
two-words (p ∷ []) a b n at_0 at_1 = absurd (omega (arith, n))
two-words (p ∷ q ∷ r ∷ words) a b n at_0 at_1 = absurd (omega (arith, n))

pub three-words : (words : List (List ℕ)) (a b c : List ℕ) → length words ≡ 3 → slice_get words 0 ≡ Some a → slice_get words 1 ≡ Some b → slice_get words 2 ≡ Some c → words ≡ a ∷ b ∷ c ∷ []
three-words (p ∷ q ∷ r ∷ []) a b c n at_0 at_1 at_2 = cc
three-words [] a b c n at_0 at_1 at_2 = absurd (cc)
three-words (p ∷ []) a b c n at_0 at_1 at_2 = absurd (omega (arith, n))
three-words (p ∷ q ∷ []) a b c n at_0 at_1 at_2 = absurd (omega (arith, n))
three-words (p ∷ q ∷ r ∷ s ∷ words) a b c n at_0 at_1 at_2 = absurd (omega (arith, n))

pub six-words : (words : List (List ℕ)) (a b c d e f : List ℕ) → length words ≡ 6 → slice_get words 0 ≡ Some a → slice_get words 1 ≡ Some b → slice_get words 2 ≡ Some c → slice_get words 3 ≡ Some d → slice_get words 4 ≡ Some e → slice_get words 5 ≡ Some f → words ≡ a ∷ b ∷ c ∷ d ∷ e ∷ f ∷ []
six-words (p ∷ q ∷ r ∷ s ∷ t ∷ u ∷ []) a b c d e f n at_0 at_1 at_2 at_3 at_4 at_5 = cc
six-words [] a b c d e f n at_0 at_1 at_2 at_3 at_4 at_5 = absurd (cc)
six-words (p ∷ []) a b c d e f n at_0 at_1 at_2 at_3 at_4 at_5 = absurd (omega (arith, n))
six-words (p ∷ q ∷ []) a b c d e f n at_0 at_1 at_2 at_3 at_4 at_5 = absurd (omega (arith, n))
six-words (p ∷ q ∷ r ∷ []) a b c d e f n at_0 at_1 at_2 at_3 at_4 at_5 = absurd (omega (arith, n))
six-words (p ∷ q ∷ r ∷ s ∷ []) a b c d e f n at_0 at_1 at_2 at_3 at_4 at_5 = absurd (omega (arith, n))
six-words (p ∷ q ∷ r ∷ s ∷ t ∷ []) a b c d e f n at_0 at_1 at_2 at_3 at_4 at_5 = absurd (omega (arith, n))
six-words (p ∷ q ∷ r ∷ s ∷ t ∷ u ∷ v ∷ words) a b c d e f n at_0 at_1 at_2 at_3 at_4 at_5 = absurd (omega (arith, n))

-- other numbers of words are in no form
pub no-form : (words : List (List ℕ)) → (length words ≡ 1 → ⊥) → (length words ≡ 2 → ⊥) → (length words ≡ 3 → ⊥) → (length words ≡ 6 → ⊥) → form_of words ≡ None
unfolding form_of
no-form [] one two three six = refl
no-form (p ∷ []) one two three six = absurd (one refl)
no-form (p ∷ q ∷ []) one two three six = absurd (two refl)
no-form (p ∷ q ∷ r ∷ []) one two three six = absurd (three refl)
no-form (p ∷ q ∷ r ∷ s ∷ []) one two three six = refl
no-form (p ∷ q ∷ r ∷ s ∷ t ∷ []) one two three six = refl
no-form (p ∷ q ∷ r ∷ s ∷ t ∷ u ∷ []) one two three six = absurd (six refl)
no-form (p ∷ q ∷ r ∷ s ∷ t ∷ u ∷ v ∷ words) one two three six = refl
