-- No index stands twice in a ring's list: before the newest entry all others stand.
use Rattle.std.proofs.Common.{◌≡◌, ℕ, zero, suc, ◌+◌, ◌-◌, ◌<◌, Bool, true, false, cond, List, [], ◌∷◌, ◌++◌, filter, subst, arith}
use Rattle.std.specs.Prelude.{◌==◌}
use Rattle.std.specs.List.{range_with_len}
use Rattle.std.proofs.lemmas.Bool.Decides.{nat_tests}
use Rattle.gated_ring.specs.Ring.{Shape, pointer, next, order, is_there, indices, IsLast}
use Rattle.gated_ring.proofs.Orders.{Each, each_append, each_filter, range_each}

abbrev Others : ℕ → List ℕ → Type 0
Others i js = Each (λ j. (j == i) ≡ false) js

abbrev Distinct : List ℕ → Type 0
Distinct [] = Unit {0}
Distinct (i ∷ js) = Others i js × Distinct js

apart : (i j : ℕ) → j < i → (j == i) ≡ false
apart i j lt = grind (arith, nat_tests)

behind : (i j : ℕ) → i < j → (j == i) ≡ false
behind i j lt = grind (arith, nat_tests)

other_way : (i j : ℕ) → (i == j) ≡ false → (j == i) ≡ false
other_way i j is = grind (arith, nat_tests)

range_distinct : (a n : ℕ) → Distinct (range_with_len a n)
range_distinct a zero = tt
range_distinct a (suc n) = (range_each (λ j. (j == a) ≡ false) (a + 1) n (λ j low high. behind a j (omega (arith, low))), range_distinct (a + 1) n)

both_distinct : (xs ys : List ℕ) → Distinct xs → Distinct ys → Each (λ i. Others i ys) xs → Distinct (xs ++ ys)
both_distinct [] ys h k all = k
both_distinct (x ∷ xs) ys h k all = (each_append (λ j. (j == x) ≡ false) xs ys h.0 all.0, both_distinct xs ys h.1 k all.1)

order_distinct : (r : Shape) (k : ℕ) → Distinct (order r k)
order_distinct r k = both_distinct (range_with_len k (r.count - k)) (range_with_len 0 k) (range_distinct k (r.count - k)) (range_distinct 0 k)
    (range_each (λ i. Others i (range_with_len 0 k)) k (r.count - k) (λ i from to. range_each (λ j. (j == i) ≡ false) 0 k (λ j low high. apart i j (omega (arith, from, high)))))

filter_distinct : (p : ℕ → Bool) (js : List ℕ) → Distinct js → Distinct (filter p js)
filter_distinct p [] h = tt
filter_distinct p (j ∷ js) h = by (p j) (filter_distinct p js h.1)
  where
    by : (b : Bool) → Distinct (filter p js) → Distinct (cond b (j ∷ filter p js) (filter p js))
    by true rest = (each_filter (λ i. (i == j) ≡ false) p js h.0, rest)
    by false rest = rest

indices_distinct : (r : Shape) (x : List ℕ) → Distinct (indices r x)
unfolding indices
indices_distinct r x = filter_distinct (is_there r x) (order r (next r (pointer r x))) (order_distinct r (next r (pointer r x)))

before_last : (older : List ℕ) (i : ℕ) → Distinct (older ++ i ∷ []) → Others i older
before_last [] i h = tt
before_last (j ∷ older) i h = (other_way i j (at_end older h.0), before_last older i h.1)
  where
    at_end : (older : List ℕ) → Others j (older ++ i ∷ []) → (i == j) ≡ false
    at_end [] all = all.0
    at_end (k ∷ older) all = at_end older all.1

pub older_others : (r : Shape) (x : List ℕ) (i : ℕ) (last : IsLast r x i) → Each (λ j. (j == i) ≡ false) last.older
older_others r x i last = before_last last.older i (subst Distinct last.indices_are (indices_distinct r x))
