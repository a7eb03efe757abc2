-- Files that are none, and what their pointers are.
use Rattle.std.proofs.Common.{◌≡◌, ◌∙◌, ◌⊎◌, ⊎_elim, ℕ, suc, ◌+◌, ◌-◌, ◌%◌, ◌<◌, ◌≤◌, Bool, true, false, List, [], ◌∷◌, ◌++◌, length, take, drop, refl, sym, arith, length-append, append_assoc, append-nil, ap, subst}
use Rattle.std.specs.Prelude.{nat_eq, nat_le, ◌||◌}
use Rattle.std.proofs.lemmas.Bool.{le-leb, lt-leb}
use Rattle.std.proofs.lemmas.Bool.Decides.{nat_tests}
use Rattle.card_layout.specs.Images.{number_at}
use Rattle.std.proofs.lemmas.List.{length-drop, length-take-le}
use Rattle.card_model.specs.Bytes.{two_bytes}
use Rattle.file_view.specs.declared.fault.ViewFault.{ViewFault}
use Rattle.file_view.specs.declared.fault.ViewFault.TheVariants.{BadFile, Memory}
use Rattle.file_view.specs.Faults.{IfBadFile}
use Rattle.file_view.specs.CardFiles.{IsBadCardFile}
use Rattle.file_view.proofs.OneWay.{does_not_fail}
use Rattle.file_extract.specs.Judged.{IsWhole}
use Rattle.file_extract.specs.OddDays.{is_memory, pointed, places_back, is_first_day}

-- a file that is bad is not whole
pub bad_is_none : (fault : ViewFault) (bytes : List ℕ) → is_memory fault ≡ false → IfBadFile fault (λ place. IsBadCardFile place bytes) → IsWhole bytes → ⊥
bad_is_none Memory bytes other bad whole = absurd (cc)
bad_is_none (BadFile place) bytes other bad whole = does_not_fail whole.app whole.days whole.vehicles whole.entries bytes whole.file place bad

-- other pointers leave the length
pub pointed_size : (at oldest newest : ℕ) (bytes : List ℕ) → at + 4 ≤ length bytes → length (pointed at oldest newest bytes) ≡ length bytes
pointed_size at oldest newest bytes inside = omega (arith, length-append (take at bytes) (two_bytes oldest ++ (two_bytes newest ++ drop (at + 4) bytes)), length-take-le at bytes, length-drop (at + 4) bytes, inside)

-- one more number below
pub one_below : {P : ℕ → Type 0} → (i : ℕ) → ((k : ℕ) → k < i → P k) → P i → (k : ℕ) → k < i + 1 → P k
one_below {P} i below here k low = ⊎_elim (λ less. below k less) (λ same. subst P same here) (split k i low)
  where
    split : (k i : ℕ) → k < i + 1 → (k < i) ⊎ (i ≡ k)
    split k i low = grind (arith)

-- the places of days, one more
back_more : (most size place : ℕ) (string : List ℕ) → place + 2 ≤ length string → 0 < number_at string place 2 → number_at string place 2 ≤ size
    → places_back (suc most) size place string ≡ place ∷ places_back most size ((place + size - number_at string place 2) % size) string
unfolding places_back
back_more most size place string inside some fits =
    let here : nat_le (place + 2) (length string) ≡ true = le-leb (place + 2) (length string) inside in
    let one : nat_eq (number_at string place 2) 0 ≡ false = grind (arith, nat_tests, some) in
    let two : nat_le (number_at string place 2) size ≡ true = le-leb (number_at string place 2) size fits in
    rw (here, one, two) refl

back_last : (most size place : ℕ) (string : List ℕ) → place + 2 ≤ length string → is_first_day size (number_at string place 2) ≡ true → places_back (suc most) size place string ≡ place ∷ []
unfolding places_back
back_last most size place string inside first =
    let here : nat_le (place + 2) (length string) ≡ true = le-leb (place + 2) (length string) inside in
    rw (here, first) refl

back_none : (most size place : ℕ) (string : List ℕ) → length string < place + 2 → places_back (suc most) size place string ≡ []
unfolding places_back
back_none most size place string out =
    let here : nat_le (place + 2) (length string) ≡ false = lt-leb (place + 2) (length string) out in
    rw here refl

back_zero : (size place : ℕ) (string : List ℕ) → places_back 0 size place string ≡ []
unfolding places_back
back_zero size place string = refl

zero_first : (size previous : ℕ) → previous ≡ 0 → is_first_day size previous ≡ true
zero_first size previous is = ap (is_first_day size) is

high_first : (size previous : ℕ) → size < previous → is_first_day size previous ≡ true
high_first size previous high =
    let two : nat_le previous size ≡ false = lt-leb previous size high in
    rw two (or_true (nat_eq previous 0))
  where
    or_true : (b : Bool) → (b || true) ≡ true
    or_true true = refl
    or_true false = refl

-- the same behind the places so far
module _ (items : List ℕ) (most day size place : ℕ) (string all : List ℕ) (so_far : items ++ places_back (most - day) size place string ≡ all) (low : day < most) where
  next : most - day ≡ suc (most - (day + 1))
  next = omega (arith, low)

  pub places_more : (new : List ℕ) (previous place_next : ℕ) → new ≡ items ++ place ∷ [] → place + 2 ≤ length string → previous ≡ number_at string place 2 → 0 < previous → previous ≤ size → place_next ≡ (place + size - previous) % size
      → new ++ places_back (most - (day + 1)) size place_next string ≡ all
  places_more new previous place_next is inside told some fits next_is =
      ap (λ (l : List ℕ). l ++ places_back (most - (day + 1)) size place_next string) is
      ∙ append_assoc items (place ∷ []) (places_back (most - (day + 1)) size place_next string)
      ∙ ap (λ (p : ℕ). items ++ place ∷ places_back (most - (day + 1)) size p string) (next_is ∙ ap (λ (n : ℕ). (place + size - n) % size) told)
      ∙ ap (λ (l : List ℕ). items ++ l) (sym (back_more (most - (day + 1)) size place string inside (omega (arith, told, some)) (omega (arith, told, fits))))
      ∙ ap (λ (n : ℕ). items ++ places_back n size place string) (sym next) ∙ so_far

  pub places_last : (new : List ℕ) (previous : ℕ) → new ≡ items ++ place ∷ [] → place + 2 ≤ length string → previous ≡ number_at string place 2 → (previous ≡ 0) ⊎ (size < previous) → new ≡ all
  places_last new previous is inside told ends =
      let first : is_first_day size (number_at string place 2) ≡ true = ap (is_first_day size) (sym told) ∙ ⊎_elim (zero_first size previous) (high_first size previous) ends in
      is ∙ ap (λ (l : List ℕ). items ++ l) (sym (back_last (most - (day + 1)) size place string inside first)) ∙ ap (λ (n : ℕ). items ++ places_back n size place string) (sym next) ∙ so_far

  pub places_none : length string < place + 2 → items ≡ all
  places_none out =
      sym (append-nil items) ∙ ap (λ (l : List ℕ). items ++ l) (sym (back_none (most - (day + 1)) size place string out)) ∙ ap (λ (n : ℕ). items ++ places_back n size place string) (sym next) ∙ so_far

pub places_all : (items : List ℕ) (most day size place : ℕ) (string all : List ℕ) → items ++ places_back (most - day) size place string ≡ all → most ≤ day → items ≡ all
places_all items most day size place string all so_far high =
    let none : most - day ≡ 0 = omega (arith, high) in
    sym (append-nil items) ∙ ap (λ (l : List ℕ). items ++ l) (sym (back_zero size place string)) ∙ ap (λ (n : ℕ). items ++ places_back n size place string) (sym none) ∙ so_far
