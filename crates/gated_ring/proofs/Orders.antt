-- The order of a ring's indices, and those of them whose entries are there.
use Rattle.std.proofs.Common.{◌≡◌, ◌≢◌, ⊎_elim, ℕ, zero, suc, ◌+◌, ◌-◌, ◌<◌, ◌≤◌, Bool, true, false, not, cond, List, [], ◌∷◌, ◌++◌, map, filter, refl, sym, ◌∙◌, ap, arith, append_assoc, add-one, add-zero, zero-add}
use Rattle.std.specs.List.{range_with_len}
use Rattle.std.specs.Prelude.{◌==◌}
use Rattle.std.proofs.lemmas.Bool.Decides.{nat_tests}
use Rattle.std.proofs.lemmas.List.{append-nil}
use Rattle.std.proofs.lemmas.List.Elements.{filter-append}
use Rattle.std.proofs.lemmas.Bool.{cases_eq}
use Rattle.gated_ring.specs.Ring.{Shape, next, order, without_first}

-- a fact of each member
abbrev pub Each : (ℕ → Type 0) → List ℕ → Type 0
Each P [] = Unit {0}
Each P (x ∷ xs) = P x × Each P xs

pub each_append : (P : ℕ → Type 0) (xs ys : List ℕ) → Each P xs → Each P ys → Each P (xs ++ ys)
each_append P [] ys left right = right
each_append P (x ∷ xs) ys left right = (left.0, each_append P xs ys left.1 right)

pub each_weaker : (P Q : ℕ → Type 0) (js : List ℕ) → ((j : ℕ) → P j → Q j) → Each P js → Each Q js
each_weaker P Q [] weaker all = tt
each_weaker P Q (j ∷ js) weaker all = (weaker j all.0, each_weaker P Q js weaker all.1)

pub each_filter : (P : ℕ → Type 0) (p : ℕ → Bool) (js : List ℕ) → Each P js → Each P (filter p js)
each_filter P p [] all = tt
each_filter P p (j ∷ js) all = by (each_filter P p js all.1) (p j)
  where
    by : Each P (filter p js) → (b : Bool) → Each P (cond b (j ∷ filter p js) (filter p js))
    by tail true = (all.0, tail)
    by tail false = tail

pub range_each : (P : ℕ → Type 0) (a n : ℕ) → ((j : ℕ) → a ≤ j → j < a + n → P j) → Each P (range_with_len a n)
range_each P a zero all = tt
range_each P a (suc n) all = (all a (omega arith) (omega arith), range_each P (a + 1) n (λ j low high. all j (omega arith) (omega arith)))

range_push : (a n : ℕ) → range_with_len a (suc n) ≡ range_with_len a n ++ (a + n) ∷ []
range_push a zero = ap (λ (k : ℕ). k ∷ []) (omega arith)
range_push a (suc n) = ap (λ (l : List ℕ). a ∷ l) (range_push (a + 1) n ∙ ap (λ (k : ℕ). range_with_len (a + 1) n ++ k ∷ []) (omega arith))

-- a range in two
pub range_split : (a m n : ℕ) → range_with_len a (m + n) ≡ range_with_len a m ++ range_with_len (a + m) n
range_split a zero n = ap (range_with_len a) (zero-add n) ∙ ap (λ (k : ℕ). range_with_len k n) (sym (add-zero a))
range_split a (suc m) n =
    let more : suc m + n ≡ suc (m + n) = omega arith in
    let start : a + 1 + m ≡ a + suc m = omega arith in
    ap (range_with_len a) more ∙ ap (λ (l : List ℕ). a ∷ l) (range_split (a + 1) m n ∙ ap (λ (k : ℕ). range_with_len (a + 1) m ++ range_with_len k n) start)

-- the next index is below the count too
pub next_below : (r : Shape) (p : ℕ) → p < r.count → next r p < r.count
next_below r p below = grind (arith, nat_tests)

-- the indices after this one round to the one before it
abbrev pub rest : Shape → ℕ → List ℕ
rest r i = range_with_len (i + 1) (r.count - (i + 1)) ++ range_with_len 0 i

module _ (r : Shape) (i : ℕ) (below : i < r.count) where
  pub rest_each : Each (λ j. (j < r.count) × (j ≢ i)) (rest r i)
  rest_each = each_append (λ j. (j < r.count) × (j ≢ i)) (range_with_len (i + 1) (r.count - (i + 1))) (range_with_len 0 i)
      (range_each (λ j. (j < r.count) × (j ≢ i)) (i + 1) (r.count - (i + 1)) (λ j low high. (omega arith, omega arith)))
      (range_each (λ j. (j < r.count) × (j ≢ i)) 0 i (λ j low high. (omega arith, omega arith)))

  pub rest_others : Each (λ j. j ≢ i) (rest r i)
  rest_others = each_weaker (λ j. (j < r.count) × (j ≢ i)) (λ j. j ≢ i) (rest r i) (λ j both. both.1) rest_each

  pub order_each : Each (λ j. j < r.count) (order r i)
  order_each = each_append (λ j. j < r.count) (range_with_len i (r.count - i)) (range_with_len 0 i)
      (range_each (λ j. j < r.count) i (r.count - i) (λ j low high. omega arith))
      (range_each (λ j. j < r.count) 0 i (λ j low high. omega arith))

  pub order_first : order r i ≡ i ∷ rest r i
  order_first =
      let n = r.count - (i + 1) in
      let more : r.count - i ≡ suc n = omega arith in
      ap (λ (k : ℕ). range_with_len i k ++ range_with_len 0 i) more

  pub order_last : order r (next r i) ≡ rest r i ++ i ∷ []
  order_last = ⊎_elim at_end before_end (cases_eq (i + 1) r.count)
    where
      zero_last : range_with_len 0 i ++ (0 + i) ∷ [] ≡ range_with_len 0 i ++ i ∷ []
      zero_last = ap (λ (k : ℕ). range_with_len 0 i ++ k ∷ []) (zero-add i)

      at_end : i + 1 ≡ r.count → order r (next r i) ≡ rest r i ++ i ∷ []
      at_end is =
          let first : next r i ≡ 0 = grind (arith, nat_tests, is) in
          let none : r.count - (i + 1) ≡ 0 = omega arith in
          let all : r.count - 0 ≡ suc i = omega arith in
          ap (order r) first ∙ append-nil (range_with_len 0 (r.count - 0)) ∙ ap (range_with_len 0) all ∙ range_push 0 i ∙ zero_last
          ∙ sym (ap (λ (n : ℕ). range_with_len (i + 1) n ++ range_with_len 0 i ++ i ∷ []) none)

      before_end : i + 1 ≢ r.count → order r (next r i) ≡ rest r i ++ i ∷ []
      before_end isnt =
          let after : next r i ≡ i + 1 = grind (arith, nat_tests, isnt) in
          let front = range_with_len (i + 1) (r.count - (i + 1)) in
          ap (order r) after ∙ ap (λ (k : ℕ). front ++ range_with_len 0 k) (add-one i) ∙ ap (λ (l : List ℕ). front ++ l) (range_push 0 i ∙ zero_last)
          ∙ sym (append_assoc front (range_with_len 0 i) (i ∷ []))

-- the order in two ranges: behind the pointer, and from the start to it
pub order_two : (r : Shape) (p : ℕ) → p < r.count → order r (next r p) ≡ range_with_len (p + 1) (r.count - (p + 1)) ++ range_with_len 0 (p + 1 - 0)
order_two r p below =
    let front = range_with_len (p + 1) (r.count - (p + 1)) in
    let last : range_with_len 0 (p + 1 - 0) ≡ range_with_len 0 p ++ p ∷ [] =
    ap (range_with_len 0) (omega arith) ∙ range_split 0 p 1 ∙ ap (λ (k : ℕ). range_with_len 0 p ++ k ∷ []) (zero-add p) in
    order_last r p below ∙ append_assoc front (range_with_len 0 p) (p ∷ []) ∙ ap (λ (l : List ℕ). front ++ l) (sym last)

-- a list filtered by the same answers
pub filter_same : (p q : ℕ → Bool) (js : List ℕ) → Each (λ j. q j ≡ p j) js → filter q js ≡ filter p js
filter_same p q [] all = refl
filter_same p q (j ∷ js) all = ap (λ (b : Bool). cond b (j ∷ filter q js) (filter q js)) all.0 ∙ ap (λ (l : List ℕ). cond (p j) (j ∷ l) l) (filter_same p q js all.1)

-- and mapped by the same values
pub map_same : {X : Type 0} (f g : ℕ → X) (js : List ℕ) → Each (λ j. g j ≡ f j) js → map g js ≡ map f js
map_same f g [] all = refl
map_same {X} f g (j ∷ js) all = ap (λ (y : X). y ∷ map g js) all.0 ∙ ap (λ (l : List X). f j ∷ l) (map_same f g js all.1)

-- of one index
pub filter_one : (p : ℕ → Bool) (i : ℕ) → p i ≡ true → filter p (i ∷ []) ≡ i ∷ []
filter_one p i there = ap (λ (b : Bool). cond b (i ∷ []) []) there

pub filter_none : (p : ℕ → Bool) (i : ℕ) → p i ≡ false → filter p (i ∷ []) ≡ []
filter_none p i shut = ap (λ (b : Bool). cond b (i ∷ []) []) shut

pub filter_first : (p : ℕ → Bool) (i : ℕ) (js : List ℕ) → p i ≡ true → filter p (i ∷ js) ≡ i ∷ filter p js
filter_first p i js there = ap (λ (b : Bool). cond b (i ∷ filter p js) (filter p js)) there

pub filter_skip : (p : ℕ → Bool) (i : ℕ) (js : List ℕ) → p i ≡ false → filter p (i ∷ js) ≡ filter p js
filter_skip p i js shut = ap (λ (b : Bool). cond b (i ∷ filter p js) (filter p js)) shut

-- the last of more
pub filter_last : (p : ℕ → Bool) (js : List ℕ) (i : ℕ) → p i ≡ true → filter p (js ++ i ∷ []) ≡ filter p js ++ i ∷ []
filter_last p js i there = filter-append p js (i ∷ []) ∙ ap (λ (l : List ℕ). filter p js ++ l) (filter_one p i there)

pub filter_short : (p : ℕ → Bool) (js : List ℕ) (i : ℕ) → p i ≡ false → filter p (js ++ i ∷ []) ≡ filter p js
filter_short p js i shut = filter-append p js (i ∷ []) ∙ ap (λ (l : List ℕ). filter p js ++ l) (filter_none p i shut) ∙ append-nil (filter p js)

-- a list without an index that it lacks
pub without_none : (i : ℕ) (js : List ℕ) → Each (λ j. j ≢ i) js → filter (λ j. not (j == i)) js ≡ js
without_none i [] all = refl
without_none i (j ∷ js) all =
    let other : (j == i) ≡ false = grind (arith, nat_tests, all.0) in
    ap (λ (b : Bool). cond (not b) (j ∷ filter (λ k. not (k == i)) js) (filter (λ k. not (k == i)) js)) other ∙ ap (λ (l : List ℕ). j ∷ l) (without_none i js all.1)

pub without_one : (i : ℕ) (js : List ℕ) → filter (λ j. not (j == i)) (i ∷ js) ≡ filter (λ j. not (j == i)) js
without_one i js =
    let same : (i == i) ≡ true = grind (arith, nat_tests) in
    ap (λ (b : Bool). cond (not b) (i ∷ filter (λ k. not (k == i)) js) (filter (λ k. not (k == i)) js)) same

pub without_last : (i : ℕ) (js : List ℕ) → Each (λ j. j ≢ i) js → filter (λ j. not (j == i)) (js ++ i ∷ []) ≡ js
without_last i js all = filter-append (λ j. not (j == i)) js (i ∷ []) ∙ ap (λ (l : List ℕ). filter (λ j. not (j == i)) js ++ l) (without_one i []) ∙ append-nil (filter (λ j. not (j == i)) js) ∙ without_none i js all

-- a list without its first, where that is this one
pub first_gone : (i : ℕ) (js : List ℕ) → without_first i (i ∷ js) ≡ js
first_gone i js =
    let same : (i == i) ≡ true = grind (arith, nat_tests) in
    ap (λ (b : Bool). cond b js (i ∷ js)) same

pub first_stays : (i : ℕ) (js : List ℕ) → Each (λ j. j ≢ i) js → without_first i js ≡ js
first_stays i [] all = refl
first_stays i (j ∷ js) all =
    let other : (j == i) ≡ false = grind (arith, nat_tests, all.0) in
    ap (λ (b : Bool). cond b js (j ∷ js)) other
