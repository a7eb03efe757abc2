-- Where the block of a number stands, the oldest first.
use Rattle.std.proofs.Common.{◌≡◌, ◌∙◌, ℕ, ◌+◌, ◌-◌, ◌<◌, ◌≤◌, Bool, true, false, cond, not, List, [], ◌∷◌, ◌++◌, length, get_or, take, filter, refl, sym, ap, subst, arith, append-nil, length-append}
use Rattle.std.specs.Prelude.{◌==◌, nat_lt}
use Rattle.std.specs.List.{range_with_len}
use Rattle.std.proofs.lemmas.Bool.Decides.{nat_tests}
use Rattle.std.proofs.lemmas.List.{get_or_append_left, get_or-append_right, get_or_push, take_all}
use Rattle.std.proofs.lemmas.List.Elements.{filter_more}
use Rattle.std.proofs.lemmas.List.FromFn.{length-range_with_len, get_or-range_with_len}
use Rattle.gated_ring.specs.Ring.{PointsInside, pointer, is_there, gate_of, number_at, next, order, indices}
use Rattle.gated_ring.proofs.Orders.{next_below}
use Rattle.speed_model.specs.Stored.{speed_ring}
use Rattle.speed_store.specs.declared.finding.Found.{Found}
use Rattle.speed_store.specs.Finding.{after, turned, picked, IsFound}

-- the indices in their order, and those of the first k that are there
abbrev pub all_from : (x : List ℕ) → List ℕ
all_from x = order speed_ring (next speed_ring (pointer speed_ring x))

abbrev pub so_far : (x : List ℕ) (k : ℕ) → List ℕ
so_far x k = filter (is_there speed_ring x) (take k (all_from x))

pub after_next : (p : ℕ) → p < 1440 → after p ≡ next speed_ring p
after_next p low = by (nat_lt p 1439) refl (p + 1 == 1440) refl
  where
    by : (a : Bool) → nat_lt p 1439 ≡ a → (b : Bool) → (p + 1 == 1440) ≡ b → cond a (p + 1) 0 ≡ cond b 0 (p + 1)
    by true less true end = absurd (grind (arith, nat_tests))
    by true less false end = refl
    by false less true end = refl
    by false less false end = absurd (grind (arith, nat_tests))

order_long : (first : ℕ) → first < 1440 → length (order speed_ring first) ≡ 1440
order_long first low =
    omega (arith, low, length-append (range_with_len first (1440 - first)) (range_with_len 0 first), length-range_with_len first (1440 - first), length-range_with_len 0 first)

turned_at : (first step : ℕ) → first < 1440 → step < 1440 → turned first step ≡ get_or (order speed_ring first) step 0
turned_at first step low small = by (nat_lt (first + step) 1440) refl
  where
    by : (b : Bool) → nat_lt (first + step) 1440 ≡ b → cond b (first + step) (first + step - 1440) ≡ get_or (order speed_ring first) step 0
    by true less =
        let lt : first + step < 1440 = grind (arith, nat_tests) in
        sym (get_or_append_left (range_with_len first (1440 - first)) (range_with_len 0 first) 0 step (omega (arith, lt, length-range_with_len first (1440 - first)))
        ∙ get_or-range_with_len first (1440 - first) step 0 (omega (arith, lt)))
    by false less =
        let le : 1440 ≤ first + step = grind (arith, nat_tests) in
        let place : first + step - 1440 ≡ 0 + (step - (1440 - first)) = omega (arith, le, low) in
        place
        ∙ sym (get_or-append_right (range_with_len first (1440 - first)) (range_with_len 0 first) (1440 - first) step 0 (length-range_with_len first (1440 - first)) (omega (arith, le))
        ∙ get_or-range_with_len 0 first (step - (1440 - first)) 0 (omega (arith, le, low, small)))

-- one index more
module _ (nth index : ℕ) (F : List ℕ) (found : Found) (h : IsFound nth F found) where
  one_there : IsFound nth (F ++ index ∷ []) (picked found true index)
  one_there = record { left = omega (arith, h.left, long); index = λ low. by (found.left == 1) refl low }
    where
      long : length (F ++ index ∷ []) ≡ length F + 1
      long = length-append F (index ∷ [])

      by : (b : Bool) → (found.left == 1) ≡ b → nth < length (F ++ index ∷ []) → cond b index found.index ≡ get_or (F ++ index ∷ []) nth 0
      by true is low =
          let one : found.left ≡ 1 = grind (arith, nat_tests) in
          sym (get_or_push F index 0 nth (omega (arith, one, h.left, low, long)))
      by false is low =
          let other : (found.left ≡ 1) → ⊥ = λ one. absurd (grind (arith, nat_tests)) in
          let before : nth < length F = inside other low in
          h.index before ∙ sym (get_or_append_left F (index ∷ []) 0 nth before)
        where
          inside : ((found.left ≡ 1) → ⊥) → nth < length (F ++ index ∷ []) → nth < length F
          inside other low = omega (arith, h.left, low, long, other)

  none_there : IsFound nth (F ++ []) (picked found false index)
  none_there = subst (λ (l : List ℕ). IsFound nth l found) (sym (append-nil F)) h

  one_more : (b : Bool) → IsFound nth (F ++ cond b (index ∷ []) []) (picked found b index)
  one_more true = one_there
  one_more false = none_there

pub found_more : (x : List ℕ) (nth step index time : ℕ) (found : Found) → PointsInside speed_ring x → step < 1440 → index ≡ turned (after (pointer speed_ring x)) step
    → time ≡ number_at x (gate_of speed_ring index) 4 → IsFound nth (so_far x step) found → IsFound nth (so_far x (step + 1)) (picked found (not (time == 0)) index)
found_more x nth step index time found points small index_is time_is h =
    let first = next speed_ring (pointer speed_ring x) in
    let low : next speed_ring (pointer speed_ring x) < 1440 = next_below speed_ring (pointer speed_ring x) points in
    let at : index ≡ get_or (all_from x) step 0 =
    index_is ∙ ap (λ (f : ℕ). turned f step) (after_next (pointer speed_ring x) points) ∙ turned_at first step low small in
    let there : is_there speed_ring x index ≡ not (time == 0) = ap (λ (n : ℕ). not (n == 0)) (sym time_is) in
    let more : so_far x (step + 1) ≡ so_far x step ++ cond (not (time == 0)) (index ∷ []) [] =
    filter_more (is_there speed_ring x) (all_from x) step 0 (omega (arith, small, order_long first low))
    ∙ ap (λ (j : ℕ). so_far x step ++ cond (is_there speed_ring x j) (j ∷ []) []) (sym at)
    ∙ ap (λ (b : Bool). so_far x step ++ cond b (index ∷ []) []) there in
    subst (λ (l : List ℕ). IsFound nth l (picked found (not (time == 0)) index)) (sym more) (one_more nth index (so_far x step) found h (not (time == 0)))

pub so_far_all : (x : List ℕ) → PointsInside speed_ring x → so_far x 1440 ≡ indices speed_ring x
unfolding indices
so_far_all x points =
    let first = next speed_ring (pointer speed_ring x) in
    ap (λ (l : List ℕ). filter (is_there speed_ring x) l) (take_all 1440 (all_from x) (omega (arith, order_long first (next_below speed_ring (pointer speed_ring x) points))))

pub none_found : (x : List ℕ) (nth first : ℕ) → IsFound nth (so_far x 0) (record { left = nth + 1; index = first })
none_found x nth first = record { left = omega arith; index = λ low. absurd (omega (arith, low)) }
