-- A list from an index on, one element after the other.
use Rattle.std.proofs.Common.{◌≡◌, ◌∙◌, ℕ, suc, ◌+◌, ◌≤◌, Some, List, [], ◌∷◌, ◌++◌, length, take, drop, map, refl, ap, sym, arith, length-take, length-drop}
use Rattle.std.proofs.Math.Seq.{drop-cons}
use Rattle.std.specs.List.{slice_get}
use Rattle.std.proofs.lemmas.List.{map-append, drop-append-le, take-append-drop, take_more, take_all}
use Rattle.std.proofs.lemmas.Option.{slice_get_within, get_or_from_slice_get}

pub none-yet : {T : Type 0} (n : ℕ) (xs : List T) → drop n (take n xs) ≡ []
none-yet {T} n xs = empty (drop n (take n xs)) (let few = length-take n xs in omega (arith, few, length-drop n (take n xs)))
  where
    empty : (ys : List T) → length ys ≡ 0 → ys ≡ []
    empty [] none = refl
    empty (y ∷ ys) none = absurd (omega (arith, none))

-- those from an index on, and one more
pub one-more : {T : Type 0} (from i : ℕ) (xs : List T) (x : T) → from ≤ i → slice_get xs i ≡ Some x → drop from (take (i + 1) xs) ≡ drop from (take i xs) ++ x ∷ []
one-more {T} from i xs x le here =
    let within = slice_get_within xs i x here in
    let few : from ≤ length (take i xs) = omega (arith, length-take i xs, le, within) in
    ap (drop from) (take_more xs i x within ∙ ap (λ (y : T). take i xs ++ y ∷ []) (get_or_from_slice_get xs i x x here))
    ∙ drop-append-le from (take i xs) (x ∷ []) few

pub map-more : {T U : Type 0} (f : T → U) (xs : List T) (x : T) → map f xs ++ f x ∷ [] ≡ map f (xs ++ x ∷ [])
map-more {T} {U} f xs x = sym (map-append f xs (x ∷ []))

-- all of them, and those that are left behind some
pub all-of-them : {T : Type 0} (from i : ℕ) (xs : List T) → length xs ≤ i → drop from (take i xs) ≡ drop from xs
all-of-them from i xs all = ap (drop from) (take_all i xs all)

head-here : {T : Type 0} (i : ℕ) (xs : List T) (x : T) → slice_get xs i ≡ Some x → drop i xs ≡ x ∷ drop (i + 1) xs
head-here {T} i xs x here =
    let within = slice_get_within xs i x here in
    let next : i + 1 ≡ suc i = omega arith in
    drop-cons xs i x within ∙ ap (λ (y : T). y ∷ drop (suc i) xs) (get_or_from_slice_get xs i x x here) ∙ ap (λ (n : ℕ). x ∷ drop n xs) (sym next)

pub those-left : {T U : Type 0} (f : T → U) (from i : ℕ) (xs : List T) (x : T) → from ≤ i → slice_get xs i ≡ Some x → map f (drop from xs) ≡ map f (drop from (take i xs)) ++ (f x ∷ map f (drop (i + 1) xs))
those-left {T} {U} f from i xs x le here =
    let within = slice_get_within xs i x here in
    let few : from ≤ length (take i xs) = omega (arith, length-take i xs, le, within) in
    let parts : drop from xs ≡ drop from (take i xs) ++ drop i xs = ap (drop from) (sym (take-append-drop i xs)) ∙ drop-append-le from (take i xs) (drop i xs) few in
    ap (map f) (parts ∙ ap (λ (l : List T). drop from (take i xs) ++ l) (head-here i xs x here)) ∙ map-append f (drop from (take i xs)) (x ∷ drop (i + 1) xs)
