-- What helps by the first word, of so many words.
use Rattle.std.proofs.Common.{◌≡◌, ℕ, true, List, [], ◌∷◌, length, nat_eq, refl, arith, eqb-true}
use Rattle.std.specs.Prelude.{Some, slice_get}
use Rattle.tacho.specs.declared.hints.Hint.TheVariants.{Help}
use Rattle.tacho.specs.Hints.{hint_of, command_hint}

pub first-hint : (words : List (List ℕ)) (a : List ℕ) → slice_get words 0 ≡ Some a → (length words ≡ 2 → ⊥) → (length words ≡ 3 → ⊥) → (length words ≡ 6 → ⊥) → hint_of words ≡ command_hint a
unfolding hint_of
first-hint [] a at two three six = absurd (cc)
first-hint (p ∷ []) a at two three six = cc
first-hint (p ∷ q ∷ []) a at two three six = absurd (two refl)
first-hint (p ∷ q ∷ r ∷ []) a at two three six = absurd (three refl)
first-hint (p ∷ q ∷ r ∷ s ∷ []) a at two three six = cc
first-hint (p ∷ q ∷ r ∷ s ∷ t ∷ []) a at two three six = cc
first-hint (p ∷ q ∷ r ∷ s ∷ t ∷ u ∷ []) a at two three six = absurd (six refl)
first-hint (p ∷ q ∷ r ∷ s ∷ t ∷ u ∷ v ∷ words) a at two three six = cc

pub no-word : (words : List (List ℕ)) → nat_eq (length words) 0 ≡ true → hint_of words ≡ Help
unfolding hint_of
no-word [] none = refl
no-word (p ∷ words) none = absurd (omega (arith, eqb-true (length (p ∷ words)) 0 none))
