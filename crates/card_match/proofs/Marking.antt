-- A list of which a part alone is changed, where the change leaves what stands before it and behind it.
use Rattle.std.proofs.Common.{◌≡◌, ◌∙◌, ℕ, zero, suc, ◌<◌, ◌≤◌, List, [], ◌∷◌, ◌++◌, length, take, drop, get_or, map, refl, ap, sym, arith}
use Rattle.std.proofs.lemmas.List.{map-append, take-append-drop}

module _ {X : Type 0} (f : X → X) where
  front_same : (i : ℕ) (xs : List X) → ((k : ℕ) (d : X) → k < i → k < length xs → f (get_or xs k d) ≡ get_or xs k d) → map f (take i xs) ≡ take i xs
  front_same zero xs same = refl
  front_same (suc i) [] same = refl
  front_same (suc i) (x ∷ xs) same =
      ap (λ (y : X). y ∷ map f (take i xs)) (same 0 x (omega arith) (omega arith))
      ∙ ap (λ (l : List X). x ∷ l) (front_same i xs (λ k d low inside. same (suc k) d (omega arith) (omega arith)))

  behind_same : (i : ℕ) (xs : List X) → ((k : ℕ) (d : X) → i ≤ k → k < length xs → f (get_or xs k d) ≡ get_or xs k d) → map f (drop i xs) ≡ drop i xs
  behind_same zero [] same = refl
  behind_same (suc i) [] same = refl
  behind_same zero (x ∷ xs) same =
      ap (λ (y : X). y ∷ map f xs) (same 0 x (omega arith) (omega arith))
      ∙ ap (λ (l : List X). x ∷ l) (behind_same zero xs (λ k d low inside. same (suc k) d (omega arith) (omega arith)))
  behind_same (suc i) (x ∷ xs) same = behind_same i xs (λ k d low inside. same (suc k) d (omega arith) (omega arith))

  -- nothing is changed yet
  pub changed_none : (i : ℕ) (xs : List X) → ((k : ℕ) (d : X) → k < i → k < length xs → f (get_or xs k d) ≡ get_or xs k d) → xs ≡ map f (take i xs) ++ drop i xs
  changed_none i xs same = sym (ap (λ (l : List X). l ++ drop i xs) (front_same i xs same) ∙ take-append-drop i xs)

  -- all is changed
  pub changed_all : (i : ℕ) (xs ys : List X) → ys ≡ map f (take i xs) ++ drop i xs → ((k : ℕ) (d : X) → i ≤ k → k < length xs → f (get_or xs k d) ≡ get_or xs k d) → ys ≡ map f xs
  changed_all i xs ys is same =
      is
      ∙ ap (λ (l : List X). map f (take i xs) ++ l) (sym (behind_same i xs same))
      ∙ sym (map-append f (take i xs) (drop i xs))
      ∙ ap (λ (l : List X). map f l) (take-append-drop i xs)

-- one map after another
pub map_twice : {X Y Z : Type 0} (f : X → Y) (g : Y → Z) (h : X → Z) (xs : List X) → ((x : X) → g (f x) ≡ h x) → map g (map f xs) ≡ map h xs
map_twice f g h [] same = refl
map_twice {X} {Y} {Z} f g h (x ∷ xs) same = ap (λ (z : Z). z ∷ map g (map f xs)) (same x) ∙ ap (λ (l : List Z). h x ∷ l) (map_twice f g h xs same)
