-- How many blocks are there.
use Rattle.std.proofs.Common.{◌≡◌, ⊎_elim, ℕ, ◌+◌, ◌-◌, ◌<◌, ◌≤◌, Bool, true, false, cond, not, List, [], ◌∷◌, ◌++◌, length, filter, refl, sym, ◌∙◌, ap, arith, length-append}
use Rattle.std.specs.Prelude.{◌==◌, if◌then◌else◌}
use Rattle.std.specs.List.{range_with_len}
use Rattle.std.proofs.lemmas.List.Elements.{filter-append}
use Rattle.gated_ring.specs.Ring.{PointsInside, pointer, is_there, gate_of, number_at, next, indices, taken, staying}
use Rattle.gated_ring.specs.Change.{IsAdded}
use Rattle.gated_ring.proofs.Orders.{range_split, next_below}
use Rattle.gated_ring.proofs.Listing.{indices_cases, few_indices}
use Rattle.speed_model.specs.Stored.{speed_ring}
use Rattle.speed_store.specs.Stores.{HoldsBlocks, there_count, with_one}

-- one place more
pub there-more : (x : List ℕ) (n time : ℕ) → time ≡ number_at x (gate_of speed_ring n) 4 → there_count x (n + 1) ≡ there_count x n + (if time == 0 then 0 else 1)
there-more x n time is =
    ap (λ (l : List ℕ). length (filter (is_there speed_ring x) l)) (range_split 0 n 1 ∙ ap (λ (k : ℕ). range_with_len 0 n ++ range_with_len k 1) (let first : 0 + n ≡ n = omega arith in first))
    ∙ ap length (filter-append (is_there speed_ring x) (range_with_len 0 n) (n ∷ []))
    ∙ length-append (filter (is_there speed_ring x) (range_with_len 0 n)) (filter (is_there speed_ring x) (n ∷ []))
    ∙ ap (λ (k : ℕ). there_count x n + k) (one (time == 0) refl)
  where
    one : (b : Bool) → (time == 0) ≡ b → length (filter (is_there speed_ring x) (n ∷ [])) ≡ cond b 0 1
    one b test =
        let there : is_there speed_ring x n ≡ not b = ap (λ (k : ℕ). not (k == 0)) (sym is) ∙ ap not test in
        by b there
      where
        by : (b : Bool) → is_there speed_ring x n ≡ not b → length (filter (is_there speed_ring x) (n ∷ [])) ≡ cond b 0 1
        by true shut = ap (λ (t : Bool). length (cond t (n ∷ []) [])) shut
        by false open_ = ap (λ (t : Bool). length (cond t (n ∷ []) [])) open_

-- the places from one round to it are all places
turned : (p : ℕ → Bool) (k n : ℕ) → k ≤ n → length (filter p (range_with_len k (n - k) ++ range_with_len 0 k)) ≡ length (filter p (range_with_len 0 n))
turned p k n le =
    let whole : k + (n - k) ≡ n = omega (arith, le) in
    let split : range_with_len 0 n ≡ range_with_len 0 k ++ range_with_len k (n - k) = ap (range_with_len 0) (sym whole) ∙ range_split 0 k (n - k) ∙ ap (λ (j : ℕ). range_with_len 0 k ++ range_with_len j (n - k)) (let first : 0 + k ≡ k = omega arith in first) in
    let left : length (filter p (range_with_len k (n - k) ++ range_with_len 0 k)) ≡ length (filter p (range_with_len k (n - k))) + length (filter p (range_with_len 0 k)) =
    ap length (filter-append p (range_with_len k (n - k)) (range_with_len 0 k)) ∙ length-append (filter p (range_with_len k (n - k))) (filter p (range_with_len 0 k)) in
    let right : length (filter p (range_with_len 0 n)) ≡ length (filter p (range_with_len 0 k)) + length (filter p (range_with_len k (n - k))) =
    ap (λ (l : List ℕ). length (filter p l)) split ∙ ap length (filter-append p (range_with_len 0 k) (range_with_len k (n - k))) ∙ length-append (filter p (range_with_len 0 k)) (filter p (range_with_len k (n - k))) in
    omega (arith, left, right)

pub count-holds : (x : List ℕ) (count : ℕ) → PointsInside speed_ring x → count ≡ there_count x 1440 → HoldsBlocks count x
unfolding indices
count-holds x count points is =
    let k = next speed_ring (pointer speed_ring x) in
    let below : k < 1440 = next_below speed_ring (pointer speed_ring x) points in
    record { points = points; count_is = is ∙ sym (turned (is_there speed_ring x) k 1440 (omega (arith, below))) }

-- a block more
pub holds-more : (x y head : List ℕ) (count : ℕ) (used : Bool) → HoldsBlocks count x → used ≡ is_there speed_ring x (taken speed_ring x) → IsAdded speed_ring head x y → HoldsBlocks (with_one count used) y
holds-more x y head count used h is added =
    let long : length (indices speed_ring y) ≡ length (staying speed_ring x) + 1 = ap length (added.list h.points).indices_are ∙ length-append (staying speed_ring x) (taken speed_ring x ∷ []) in
    let few : length (indices speed_ring y) ≤ 1440 = few_indices speed_ring y (added.points h.points) in
    record {
      points = added.points h.points;
      count_is = ⊎_elim
          (λ there. ap (λ (b : Bool). with_one count b) (is ∙ there.0) ∙ h.count_is ∙ omega (arith, ap length there.1, long))
          (λ shut. ap (λ (b : Bool). with_one count b) (is ∙ shut.0) ∙ omega (arith, h.count_is, ap length shut.1, long, few))
          (indices_cases speed_ring x h.points);
    }
