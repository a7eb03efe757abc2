-- The newest entry, looked for from the end of the order.
use Rattle.std.proofs.Common.{◌≡◌, ◌≢◌, ℕ, suc, ◌+◌, ◌-◌, ◌<◌, ◌≤◌, true, false, not, List, [], ◌∷◌, ◌++◌, Option, Some, None, filter, sym, ◌∙◌, ap, arith, append_assoc}
use Rattle.std.specs.Prelude.{◌==◌}
use Rattle.std.specs.List.{range_with_len}
use Rattle.std.proofs.lemmas.Bool.Decides.{nat_tests}
use Rattle.std.proofs.lemmas.List.{append-nil}
use Rattle.std.proofs.lemmas.List.Elements.{filter-append}
use Rattle.gated_ring.specs.Ring.{Shape, gate_of, number_at, is_there, pointer, next, order, indices, IsNewest}
use Rattle.gated_ring.specs.Searching.{IsNewestOf}
use Rattle.gated_ring.proofs.Orders.{range_split, filter_first, filter_skip}

-- whether an entry is there, by the number in its gate
pub shut_gate : (r : Shape) (x : List ℕ) (i n : ℕ) → n ≡ number_at x (gate_of r i) 4 → n ≡ 0 → is_there r x i ≡ false
shut_gate r x i n is none = ap (λ (k : ℕ). not (k == 0)) (sym is ∙ none)

pub open_gate : (r : Shape) (x : List ℕ) (i n : ℕ) → n ≡ number_at x (gate_of r i) 4 → n ≢ 0 → is_there r x i ≡ true
open_gate r x i n is some = ap (λ (k : ℕ). not (k == 0)) (sym is) ∙ differs n some
  where
    differs : (n : ℕ) → n ≢ 0 → not (n == 0) ≡ true
    differs n other = grind (arith, nat_tests)

-- one index more from the end, whose entry isn't there
pub none_more : (r : Shape) (x : List ℕ) (i to : ℕ) → 0 < i → i ≤ to → is_there r x (i - 1) ≡ false → filter (is_there r x) (range_with_len i (to - i)) ≡ [] → filter (is_there r x) (range_with_len (i - 1) (to - (i - 1))) ≡ []
none_more r x i to some le shut none =
    let j = i - 1 in
    let more : to - j ≡ suc (to - i) = omega (arith, some, le) in
    let after : j + 1 ≡ i = omega (arith, some) in
    ap (λ (n : ℕ). filter (is_there r x) (range_with_len j n)) more ∙ filter_skip (is_there r x) j (range_with_len (j + 1) (to - i)) shut ∙ ap (λ (k : ℕ). filter (is_there r x) (range_with_len k (to - i))) after ∙ none

-- or is
pub newest_found : (r : Shape) (x : List ℕ) (from i to : ℕ) → from < i → i ≤ to → to ≤ r.count → is_there r x (i - 1) ≡ true → filter (is_there r x) (range_with_len i (to - i)) ≡ [] → IsNewestOf r x (range_with_len from (to - from)) (Some (i - 1))
newest_found r x from i to some le below there none =
    let j = i - 1 in
    let parts : to - from ≡ (j - from) + suc (to - i) = omega (arith, some, le) in
    let start : from + (j - from) ≡ j = omega (arith, some) in
    let after : j + 1 ≡ i = omega (arith, some) in
    record {
      below = omega (arith, some, le, below);
      there = there;
      older = filter (is_there r x) (range_with_len from (j - from));
      are = ap (λ (n : ℕ). filter (is_there r x) (range_with_len from n)) parts ∙ ap (filter (is_there r x)) (range_split from (j - from) (suc (to - i)))
          ∙ ap (λ (k : ℕ). filter (is_there r x) (range_with_len from (j - from) ++ range_with_len k (suc (to - i)))) start
          ∙ filter-append (is_there r x) (range_with_len from (j - from)) (range_with_len j (suc (to - i)))
          ∙ ap (λ (l : List ℕ). filter (is_there r x) (range_with_len from (j - from)) ++ l)
          (filter_first (is_there r x) j (range_with_len (j + 1) (to - i)) there ∙ ap (λ (l : List ℕ). j ∷ l) (ap (λ (k : ℕ). filter (is_there r x) (range_with_len k (to - i))) after ∙ none));
    }

-- the newest of two ranges is that of the second, or that of the first where the second has none
pub newest_back : (r : Shape) (x front back : List ℕ) (i : ℕ) → IsNewestOf r x back (Some i) → IsNewestOf r x (front ++ back) (Some i)
newest_back r x front back i is = record {
  below = is.below;
  there = is.there;
  older = filter (is_there r x) front ++ is.older;
  are = filter-append (is_there r x) front back ∙ ap (λ (l : List ℕ). filter (is_there r x) front ++ l) is.are ∙ sym (append_assoc (filter (is_there r x) front) is.older (i ∷ []));
}

pub newest_front : (r : Shape) (x front back : List ℕ) (o : Option ℕ) → IsNewestOf r x back None → IsNewestOf r x front o → IsNewestOf r x (front ++ back) o
newest_front r x front back None none is = filter-append (is_there r x) front back ∙ ap (λ (l : List ℕ). filter (is_there r x) front ++ l) none ∙ append-nil (filter (is_there r x) front) ∙ is
newest_front r x front back (Some i) none is = record {
  below = is.below;
  there = is.there;
  older = is.older;
  are = filter-append (is_there r x) front back ∙ ap (λ (l : List ℕ). filter (is_there r x) front ++ l) none ∙ append-nil (filter (is_there r x) front) ∙ is.are;
}

-- of the whole order it is the newest of the list
pub newest_of_ring : (r : Shape) (x : List ℕ) (o : Option ℕ) → IsNewestOf r x (order r (next r (pointer r x))) o → IsNewest r x o
unfolding indices
newest_of_ring r x None none = none
newest_of_ring r x (Some i) is = record { below = is.below; there = is.there; older = is.older; indices_are = is.are }
