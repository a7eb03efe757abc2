-- Where an entry that was added stands, as more are added; and that no index stands twice.
use Rattle.std.proofs.Common.{◌≡◌, ◌⊎◌, inl, inr, ℕ, zero, suc, ◌+◌, ◌-◌, ◌<◌, ◌≤◌, Bool, true, false, cond, List, [], ◌∷◌, ◌++◌, filter, refl, ap, subst, ◌∙◌, arith, ⊎_elim}
use Rattle.std.specs.Prelude.{◌==◌}
use Rattle.std.specs.List.{AllByRecursion, range_with_len}
use Rattle.std.proofs.lemmas.Bool.{eqb-true}
use Rattle.std.proofs.lemmas.Bool.Decides.{nat_tests}
use Rattle.gated_ring.specs.Ring.{Shape, PointsInside, pointer, next, order, is_there, indices, taken, without_first}
use Rattle.gated_ring.specs.Change.{IsAdded}

abbrev IsNone : List ℕ → Type 0
IsNone l = l ≡ []

same-index : (i t : ℕ) → (i == t) ≡ true → i ≡ t
same-index i t is = eqb-true i t is

-- AN INDEX STAYS, or is the one that the next entry takes
stays : (t i : ℕ) (front back : List ℕ) → ((before : List ℕ) × (without_first t (front ++ i ∷ back) ≡ before ++ i ∷ back)) ⊎ ((front ≡ []) × (without_first t (front ++ i ∷ back) ≡ back) × (i ≡ t))
stays t i [] back = by (i == t) refl
  where
    by : (b : Bool) → (i == t) ≡ b → ((before : List ℕ) × (cond b back (i ∷ back) ≡ before ++ i ∷ back)) ⊎ (IsNone [] × (cond b back (i ∷ back) ≡ back) × (i ≡ t))
    by true is = inr (refl, refl, same-index i t is)
    by false is = inl ([], refl)
stays t i (j ∷ front) back = by (j == t)
  where
    by : (b : Bool) → ((before : List ℕ) × (cond b (front ++ i ∷ back) (j ∷ (front ++ i ∷ back)) ≡ before ++ i ∷ back)) ⊎ (IsNone (j ∷ front) × (cond b (front ++ i ∷ back) (j ∷ (front ++ i ∷ back)) ≡ back) × (i ≡ t))
    by true = inl (front, refl)
    by false = inl (j ∷ front, refl)

push : (before : List ℕ) (i : ℕ) (back : List ℕ) (t : ℕ) → (before ++ i ∷ back) ++ t ∷ [] ≡ before ++ i ∷ (back ++ t ∷ [])
push [] i back t = refl
push (j ∷ before) i back t = ap (λ (l : List ℕ). j ∷ l) (push before i back t)

pub index-stays : (r : Shape) (head x y : List ℕ) → PointsInside r x → IsAdded r head x y → (front : List ℕ) (i : ℕ) (back : List ℕ) → indices r x ≡ front ++ i ∷ back →
    ((before : List ℕ) × (indices r y ≡ before ++ i ∷ (back ++ taken r x ∷ []))) ⊎ ((front ≡ []) × (indices r y ≡ back ++ taken r x ∷ []) × (i ≡ taken r x))
index-stays r head x y points added front i back there = by (stays (taken r x) i front back)
  where
    now : indices r y ≡ without_first (taken r x) (front ++ i ∷ back) ++ taken r x ∷ []
    now = (added.list points).indices_are ∙ ap (λ (l : List ℕ). without_first (taken r x) l ++ taken r x ∷ []) there

    by : ((before : List ℕ) × (without_first (taken r x) (front ++ i ∷ back) ≡ before ++ i ∷ back)) ⊎ ((front ≡ []) × (without_first (taken r x) (front ++ i ∷ back) ≡ back) × (i ≡ taken r x)) →
        ((before : List ℕ) × (indices r y ≡ before ++ i ∷ (back ++ taken r x ∷ []))) ⊎ ((front ≡ []) × (indices r y ≡ back ++ taken r x ∷ []) × (i ≡ taken r x))
    by (inl (before, is)) = inl (before, now ∙ ap (λ (l : List ℕ). l ++ taken r x ∷ []) is ∙ push before i back (taken r x))
    by (inr (none, is, own)) = inr (none, now ∙ ap (λ (l : List ℕ). l ++ taken r x ∷ []) is, own)

-- NO INDEX STANDS TWICE
abbrev Others : ℕ → List ℕ → Type 0
Others i js = AllByRecursion (λ (j : ℕ). (j == i) ≡ false) js

abbrev Distinct : List ℕ → Type 0
Distinct [] = Unit {0}
Distinct (i ∷ js) = Others i js × Distinct js

abbrev From : ℕ → List ℕ → Type 0
From n js = AllByRecursion (λ (j : ℕ). n ≤ j) js

abbrev Below : ℕ → List ℕ → Type 0
Below n js = AllByRecursion (λ (j : ℕ). j < n) js

apart : (i j : ℕ) → j < i → (j == i) ≡ false
apart i j lt = grind (arith, nat_tests)

after : (i j : ℕ) → i < j → (j == i) ≡ false
after i j lt = grind (arith, nat_tests)

range-from : (a n b : ℕ) → b ≤ a → From b (range_with_len a n)
range-from a zero b le = tt
range-from a (suc n) b le = (le, range-from (a + 1) n b (omega (arith, le)))

range-below : (a n b : ℕ) → a + n ≤ b → Below b (range_with_len a n)
range-below a zero b le = tt
range-below a (suc n) b le = (omega (arith, le), range-below (a + 1) n b (omega (arith, le)))

later-others : (i : ℕ) (js : List ℕ) → From (i + 1) js → Others i js
later-others i [] all = tt
later-others i (j ∷ js) all = (let le : i + 1 ≤ j = all.0 in after i j (omega (arith, le)), later-others i js all.1)

range-distinct : (a n : ℕ) → Distinct (range_with_len a n)
range-distinct a zero = tt
range-distinct a (suc n) = (later-others a (range_with_len (a + 1) n) (range-from (a + 1) n (a + 1) (omega arith)), range-distinct (a + 1) n)

earlier-others : (i k : ℕ) (js : List ℕ) → k ≤ i → Below k js → Others i js
earlier-others i k [] le all = tt
earlier-others i k (j ∷ js) le all = (let lt : j < k = all.0 in apart i j (omega (arith, lt, le)), earlier-others i k js le all.1)

others-append : (i : ℕ) (xs ys : List ℕ) → Others i xs → Others i ys → Others i (xs ++ ys)
others-append i [] ys h k = k
others-append i (x ∷ xs) ys h k = (h.0, others-append i xs ys h.1 k)

distinct-append : (k : ℕ) (xs ys : List ℕ) → Distinct xs → Distinct ys → From k xs → Below k ys → Distinct (xs ++ ys)
distinct-append k [] ys h g from below = g
distinct-append k (x ∷ xs) ys h g from below = (others-append x xs ys h.0 (earlier-others x k ys from.0 below), distinct-append k xs ys h.1 g from.1 below)

order-distinct : (r : Shape) (k : ℕ) → Distinct (order r k)
order-distinct r k =
    distinct-append k (range_with_len k (r.count - k)) (range_with_len 0 k) (range-distinct k (r.count - k)) (range-distinct 0 k) (range-from k (r.count - k) k (omega arith)) (range-below 0 k k (omega arith))

filter-others : (p : ℕ → Bool) (i : ℕ) (js : List ℕ) → Others i js → Others i (filter p js)
filter-others p i [] all = tt
filter-others p i (j ∷ js) all = by (p j) (filter-others p i js all.1)
  where
    by : (b : Bool) → Others i (filter p js) → Others i (cond b (j ∷ filter p js) (filter p js))
    by true rest = (all.0, rest)
    by false rest = rest

filter-distinct : (p : ℕ → Bool) (js : List ℕ) → Distinct js → Distinct (filter p js)
filter-distinct p [] h = tt
filter-distinct p (j ∷ js) h = by (p j) (filter-distinct p js h.1)
  where
    by : (b : Bool) → Distinct (filter p js) → Distinct (cond b (j ∷ filter p js) (filter p js))
    by true rest = (filter-others p j js h.0, rest)
    by false rest = rest

distinct-indices : (r : Shape) (x : List ℕ) → Distinct (indices r x)
unfolding indices
distinct-indices r x = filter-distinct (is_there r x) (order r (next r (pointer r x))) (order-distinct r (next r (pointer r x)))

-- so the others are others
other-way : (i j : ℕ) → (i == j) ≡ false → (j == i) ≡ false
other-way i j is = grind (arith, nat_tests)

front-others : (front : List ℕ) (i : ℕ) (back : List ℕ) → Distinct (front ++ i ∷ back) → Others i (front ++ back)
front-others [] i back h = h.0
front-others (j ∷ front) i back h = (other-way i j (middle front h.0), front-others front i back h.1)
  where
    middle : (front : List ℕ) → Others j (front ++ i ∷ back) → (i == j) ≡ false
    middle [] all = all.0
    middle (k ∷ front) all = middle front all.1

pub index-alone : (r : Shape) (x front : List ℕ) (i : ℕ) (back : List ℕ) → indices r x ≡ front ++ i ∷ back → AllByRecursion (λ (j : ℕ). (j == i) ≡ false) (front ++ back)
index-alone r x front i back there = front-others front i back (subst Distinct there (distinct-indices r x))

pub index-itself : (i : ℕ) → (i == i) ≡ true
index-itself i = grind (arith, nat_tests)

-- THE NEXT INDEX lies one place further behind another, as long as fewer lie between than the ring has places
pub lies-next : (count index places at : ℕ) → index < count → places < count → at < count → ((at ≡ index + places) ⊎ (at + count ≡ index + places)) →
    ((cond (at + 1 == count) 0 (at + 1) ≡ index + suc places) ⊎ (cond (at + 1 == count) 0 (at + 1) + count ≡ index + suc places))
lies-next count index places at below few inside lies = by (at + 1 == count) refl
  where
    by : (b : Bool) → (at + 1 == count) ≡ b → (cond b 0 (at + 1) ≡ index + suc places) ⊎ (cond b 0 (at + 1) + count ≡ index + suc places)
    by true is =
        let end : at + 1 ≡ count = same-index (at + 1) count is in
        inr (⊎_elim (λ here. omega (arith, here, end)) (λ round. absurd (omega (arith, round, end, below, few))) lies)
    by false is = ⊎_elim (λ here. inl (omega (arith, here))) (λ round. inr (omega (arith, round))) lies

-- and it is the one behind that which was taken
pub lies-first : (count index : ℕ) → (cond (index + 1 == count) 0 (index + 1) ≡ index + 1) ⊎ (cond (index + 1 == count) 0 (index + 1) + count ≡ index + 1)
lies-first count index = by (index + 1 == count) refl
  where
    by : (b : Bool) → (index + 1 == count) ≡ b → (cond b 0 (index + 1) ≡ index + 1) ⊎ (cond b 0 (index + 1) + count ≡ index + 1)
    by true is = let end : index + 1 ≡ count = same-index (index + 1) count is in inr (omega (arith, end))
    by false is = inl refl
