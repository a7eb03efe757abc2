-- Which entry is the newest at the moments of a call.
use Rattle.std.proofs.Common.{◌≡◌, ◌≢◌, ◌⊎◌, inl, inr, ⊎_elim, ℕ, ◌<◌, ◌≤◌, Bool, true, false, not, cond, List, [], ◌∷◌, ◌++◌, filter, Option, Some, None, refl, sym, ◌∙◌, ap, subst, arith}
use Rattle.std.specs.Prelude.{◌==◌, ◌||◌}
use Rattle.std.proofs.lemmas.Bool.Decides.{nat_tests}
use Rattle.gated_ring.specs.Ring.{Shape, pointer, PointsInside, is_there, entry_at, next, order, indices, indices_with, indices_without, IsLast, IsNewest, taken, staying}
use Rattle.gated_ring.specs.Change.{SameOthers, IsExtended, IsAddStep, IsReplaced, IsReplacingEntry, IsAbsent, IsSet, OrUnwritten}
use Rattle.gated_ring.proofs.Orders.{Each, rest, filter_same, filter_last}
use Rattle.gated_ring.proofs.Listing.{taken_below, indices_cases, pointer_last}

-- the last of two equal lists, and what stands before it
last_same : (l m : List ℕ) (i j : ℕ) → l ++ i ∷ [] ≡ m ++ j ∷ [] → (l ≡ m) × (i ≡ j)
last_same [] [] i j is = (refl, cc)
last_same [] (b ∷ []) i j is = absurd (cc)
last_same [] (b ∷ d ∷ m) i j is = absurd (cc)
last_same (a ∷ []) [] i j is = absurd (cc)
last_same (a ∷ e ∷ l) [] i j is = absurd (cc)
last_same (a ∷ l) (b ∷ m) i j is =
    let first : a ≡ b = cc in
    let tail : l ++ i ∷ [] ≡ m ++ j ∷ [] = cc in
    let rest = last_same l m i j tail in
    (ap (λ (k : ℕ). k ∷ l) first ∙ ap (λ (t : List ℕ). b ∷ t) rest.0, rest.1)

-- a list without its first, where the last is another one
behind_first : (t i : ℕ) (l older : List ℕ) → t ≢ i → t ∷ l ≡ older ++ i ∷ [] → (more : List ℕ) × (l ≡ more ++ i ∷ [])
behind_first t i l [] other is = absurd (other (cc))
behind_first t i l (o ∷ older) other is = (older, cc)

-- in a ring of two places and more, the next index is another one
next_other : (r : Shape) (p : ℕ) → 2 ≤ r.count → next r p ≢ p
next_other r p two is = grind (arith, nat_tests)

-- the entry that is the newest stands at the pointer, where one stands there
newest_pointer : (r : Shape) (x : List ℕ) (i : ℕ) → PointsInside r x → is_there r x (pointer r x) ≡ true → IsLast r x i → i ≡ pointer r x
newest_pointer r x i known there last = (last_same last.older (filter (is_there r x) (rest r (pointer r x))) i (pointer r x) (sym last.indices_are ∙ pointer_last r x known there)).1

-- the index that is taken is not the newest entry's
taken_other : (r : Shape) (x : List ℕ) (i : ℕ) → 2 ≤ r.count → PointsInside r x → IsLast r x i → taken r x ≢ i
taken_other r x i two known last = by (is_there r x (pointer r x)) refl
  where
    by : (b : Bool) → is_there r x (pointer r x) ≡ b → cond b (next r (pointer r x)) (pointer r x) ≢ i
    by true is same = next_other r (pointer r x) two (same ∙ newest_pointer r x i known is last)
    by false is same =
        let there : is_there r x (pointer r x) ≡ true = ap (is_there r x) same ∙ last.there in
        absurd (cc)

-- While the place of the new entry is free, the newest entry is the one before, with its bytes.
module _ (r : Shape) (two : 2 ≤ r.count) (x : List ℕ) (known : PointsInside r x) (c : List ℕ) (are : indices r c ≡ staying r x) (same : SameOthers r (taken r x) x c) where
  last_stays : (i : ℕ) → IsLast r x i → IsLast r c i
  last_stays i last =
      let other = taken_other r x i two known last in
      let there : is_there r c i ≡ true = (same i last.below (λ is. other (sym is))).1 ∙ last.there in
      ⊎_elim
      (λ front. let behind = behind_first (taken r x) i (staying r x) last.older other (sym front.1 ∙ last.indices_are) in
      record { below = last.below; there = there; older = behind.0; indices_are = are ∙ behind.1 })
      (λ none. record { below = last.below; there = there; older = last.older; indices_are = are ∙ sym none.1 ∙ last.indices_are })
      (indices_cases r x known)

  pub newest_stays : (o : Option ℕ) → IsNewest r x o → IsNewest r c o
  newest_stays None none = ⊎_elim (λ front. absurd (some front.1)) (λ same. are ∙ sym same.1 ∙ none) (indices_cases r x known)
    where
      some : indices r x ≡ taken r x ∷ staying r x → ⊥
      some is = cc
  newest_stays (Some i) last = last_stays i last

  pub newest_bytes : (i : ℕ) → IsNewest r x (Some i) → entry_at r c i ≡ entry_at r x i
  newest_bytes i last = (same i last.below (λ is. taken_other r x i two known last (sym is))).0

-- And once its gate is open, it is the newest.
pub newest_added : (r : Shape) (head x y : List ℕ) → PointsInside r x → IsExtended r head x y → IsNewest r y (Some (taken r x))
newest_added r head x y known long = record { below = taken_below r x known; there = long.there; older = staying r x; indices_are = long.indices_are }

-- So at each moment of an `add` the newest entry is the one before, or the new one.
pub newest_adding : (r : Shape) (head x c : List ℕ) → 2 ≤ r.count → PointsInside r x → (o : Option ℕ) → IsNewest r x o → IsAddStep r head x c → IsNewest r c o ⊎ IsNewest r c (Some (taken r x))
newest_adding r head x c two known o newest step = ⊎_elim
    (λ same. inl (subst (λ (l : List ℕ). IsNewest r l o) (sym same) newest))
    (λ changed. ⊎_elim
    (λ short. inl (newest_stays r two x known c short.indices_are step.others o newest))
    (λ long. inr (newest_added r head x c known long)) changed)
    step.list

-- A few bytes of an entry change no newest one.
pub newest_set : (r : Shape) (i offset : ℕ) (bytes x y : List ℕ) → PointsInside r x → IsSet r i offset bytes x y → (o : Option ℕ) → IsNewest r x o → IsNewest r y o
newest_set r i offset bytes x y known set None none = set.indices_are known ∙ none
newest_set r i offset bytes x y known set (Some j) last = record { below = last.below; there = there (j == i) refl; older = last.older; indices_are = set.indices_are known ∙ last.indices_are }
  where
    there : (b : Bool) → (j == i) ≡ b → is_there r y j ≡ true
    there true is = let at : j ≡ i = grind (arith, nat_tests) in ap (is_there r y) at ∙ set.there ∙ ap (is_there r x) (sym at) ∙ last.there
    there false is = (set.others j last.below (λ same. grind (arith, nat_tests))).1 ∙ last.there

-- the indices that are there, or are this one, which is there
with_there : (p : ℕ → Bool) (i : ℕ) → p i ≡ true → (js : List ℕ) → filter (λ j. (j == i) || p j) js ≡ filter p js
with_there p i was js = filter_same p (λ j. (j == i) || p j) js (each js)
  where
    one : (j : ℕ) (b : Bool) → (j == i) ≡ b → ((j == i) || p j) ≡ p j
    one j true is = let at : j ≡ i = grind (arith, nat_tests) in ap (λ (b : Bool). b || p j) is ∙ sym (ap p at ∙ was)
    one j false is = ap (λ (b : Bool). b || p j) is

    each : (js : List ℕ) → Each (λ j. ((j == i) || p j) ≡ p j) js
    each [] = tt
    each (j ∷ js) = (one j (j == i) refl, each js)

with_same : (r : Shape) (x : List ℕ) (i : ℕ) → is_there r x i ≡ true → indices_with r x i ≡ indices r x
unfolding indices indices_with
with_same r x i was = with_there (is_there r x) i was (order r (next r (pointer r x)))

-- what is there stays there
still_there : (r : Shape) (i : ℕ) (head x y : List ℕ) → IsReplaced r i head x y → (j : ℕ) → j < r.count → is_there r x j ≡ true → is_there r y j ≡ true
still_there r i head x y replaced j below is = by (j == i) refl
  where
    by : (b : Bool) → (j == i) ≡ b → is_there r y j ≡ true
    by true same = let here : j ≡ i = grind (arith, nat_tests) in ap (is_there r y) here ∙ replaced.there
    by false same = (replaced.others j below (λ here. grind (arith, nat_tests))).1 ∙ is

-- An entry that is there and is replaced stays where it stood.
pub newest_replaced : (r : Shape) (i : ℕ) (head x y : List ℕ) → PointsInside r x → is_there r x i ≡ true → IsReplaced r i head x y → (o : Option ℕ) → IsNewest r x o → IsNewest r y o
newest_replaced r i head x y known was replaced o newest = by o newest
  where
    are : indices r y ≡ indices r x
    are = replaced.indices_are known ∙ with_same r x i was

    by : (o : Option ℕ) → IsNewest r x o → IsNewest r y o
    by None none = are ∙ none
    by (Some j) last = record { below = last.below; there = still_there r i head x y replaced j last.below last.there; older = last.older; indices_are = are ∙ last.indices_are }

-- the last of more stays the last where another is left out
without_other : (i j : ℕ) (l : List ℕ) → j ≢ i → filter (λ k. not (k == i)) (l ++ j ∷ []) ≡ filter (λ k. not (k == i)) l ++ j ∷ []
without_other i j l other = filter_last (λ k. not (k == i)) l j (ap not differs)
  where
    differs : (j == i) ≡ false
    differs = grind (arith, nat_tests)

-- Without another entry the newest one stays, as at the moments of a `put_at`.
pub newest_absent : (r : Shape) (i : ℕ) (x c : List ℕ) → PointsInside r x → IsAbsent r i x c → (j : ℕ) → j ≢ i → IsNewest r x (Some j) → IsNewest r c (Some j)
unfolding indices_without
newest_absent r i x c known absent j other last = record {
  below = last.below;
  there = (absent.others j last.below other).1 ∙ last.there;
  older = filter (λ k. not (k == i)) last.older;
  indices_are = absent.indices_are known ∙ ap (filter (λ k. not (k == i))) last.indices_are ∙ without_other i j last.older other;
}

-- ---- where a list takes one index more, its last is that one, or the last of before

abbrev EndsAt : ℕ → List ℕ → Type 0
EndsAt i l = (older : List ℕ) × (l ≡ older ++ i ∷ [])

ends_behind : (k i : ℕ) (l : List ℕ) → EndsAt i l → EndsAt i (k ∷ l)
ends_behind k i l ends = (k ∷ ends.0, ap (λ (t : List ℕ). k ∷ t) ends.1)

module _ (p : ℕ → Bool) (i : ℕ) where
  abbrev or_this : ℕ → Bool
  or_this j = (j == i) || p j

  none_more : (js : List ℕ) → filter p js ≡ [] → (filter or_this js ≡ []) ⊎ EndsAt i (filter or_this js)
  none_more [] none = inl refl
  none_more (k ∷ ks) none = by (none_more ks) (p k) (k == i) refl none
    where
      by : (filter p ks ≡ [] → (filter or_this ks ≡ []) ⊎ EndsAt i (filter or_this ks)) → (a b : Bool) → (k == i) ≡ b → cond a (k ∷ filter p ks) (filter p ks) ≡ []
          → (cond (b || a) (k ∷ filter or_this ks) (filter or_this ks) ≡ []) ⊎ EndsAt i (cond (b || a) (k ∷ filter or_this ks) (filter or_this ks))
      by rest true b is none = absurd (cc)
      by rest false true is none =
          let at : k ≡ i = grind (arith, nat_tests) in
          ⊎_elim
          (λ same. inr ([], ap (λ (t : List ℕ). k ∷ t) same ∙ ap (λ (n : ℕ). n ∷ []) at))
          (λ ends. inr (ends_behind k i (filter or_this ks) ends)) (rest none)
      by rest false false is none = rest none

  some_more : (j : ℕ) (js : List ℕ) → EndsAt j (filter p js) → EndsAt j (filter or_this js) ⊎ EndsAt i (filter or_this js)
  some_more j [] ends = absurd (nothing ends.0 ends.1)
    where
      nothing : (older : List ℕ) → [] ≡ older ++ j ∷ [] → ⊥
      nothing [] is = cc
      nothing (o ∷ older) is = cc
  some_more j (k ∷ ks) ends = by (some_more j ks) (p k) (k == i) ends
    where
      first : (EndsAt j (filter p ks) → EndsAt j (filter or_this ks) ⊎ EndsAt i (filter or_this ks)) → (older : List ℕ) → k ∷ filter p ks ≡ older ++ j ∷ []
          → EndsAt j (k ∷ filter or_this ks) ⊎ EndsAt i (k ∷ filter or_this ks)
      first rest [] is =
          let head : k ≡ j = cc in
          let tail : filter p ks ≡ [] = cc in
          ⊎_elim
          (λ same. inl ([], ap (λ (t : List ℕ). k ∷ t) same ∙ ap (λ (n : ℕ). n ∷ []) head))
          (λ ends. inr (ends_behind k i (filter or_this ks) ends)) (none_more ks tail)
      first rest (o ∷ older) is =
          let tail : filter p ks ≡ older ++ j ∷ [] = cc in
          ⊎_elim (λ ends. inl (ends_behind k j (filter or_this ks) ends)) (λ ends. inr (ends_behind k i (filter or_this ks) ends)) (rest (older, tail))

      by : (EndsAt j (filter p ks) → EndsAt j (filter or_this ks) ⊎ EndsAt i (filter or_this ks)) → (a b : Bool) → EndsAt j (cond a (k ∷ filter p ks) (filter p ks))
          → EndsAt j (cond (b || a) (k ∷ filter or_this ks) (filter or_this ks)) ⊎ EndsAt i (cond (b || a) (k ∷ filter or_this ks) (filter or_this ks))
      by rest true true ends = first rest ends.0 ends.1
      by rest true false ends = first rest ends.0 ends.1
      by rest false true ends = ⊎_elim (λ ends. inl (ends_behind k j (filter or_this ks) ends)) (λ ends. inr (ends_behind k i (filter or_this ks) ends)) (rest ends)
      by rest false false ends = rest ends

-- So once an entry stands anywhere in a ring, it is the newest, or the newest is the one before.
pub newest_placed : (r : Shape) (i : ℕ) (head x y : List ℕ) → PointsInside r x → i < r.count → IsReplaced r i head x y → (o : Option ℕ) → IsNewest r x o → IsNewest r y o ⊎ IsNewest r y (Some i)
unfolding indices indices_with
newest_placed r i head x y known below replaced None none = ⊎_elim
    (λ same. inl (replaced.indices_are known ∙ same))
    (λ ends. inr (record { below = below; there = replaced.there; older = ends.0; indices_are = replaced.indices_are known ∙ ends.1 }))
    (none_more (is_there r x) i (order r (next r (pointer r x))) none)
newest_placed r i head x y known below replaced (Some j) last = ⊎_elim
    (λ ends. inl (record { below = last.below; there = still_there r i head x y replaced j last.below last.there; older = ends.0; indices_are = replaced.indices_are known ∙ ends.1 }))
    (λ ends. inr (record { below = below; there = replaced.there; older = ends.0; indices_are = replaced.indices_are known ∙ ends.1 }))
    (some_more (is_there r x) i j (order r (next r (pointer r x))) (last.older, last.indices_are))

-- At each moment of a `put_at` at another index, also an empty one, the newest entry is the one before, or the new one.
pub newest_placing : (r : Shape) (i : ℕ) (head x c : List ℕ) → PointsInside r x → i < r.count → IsReplacingEntry r i head x c → (o : Option ℕ) → o ≢ Some i → IsNewest r x o → IsNewest r c o ⊎ IsNewest r c (Some i)
unfolding indices_without
newest_placing r i head x c known below moment o other newest = ⊎_elim
    (λ same. inl (subst (λ (l : List ℕ). IsNewest r l o) (sym same) newest))
    (λ changed. ⊎_elim
    (λ absent. inl (without o other newest absent))
    (λ replaced. newest_placed r i head x c known below replaced o newest) changed)
    moment
  where
    without : (o : Option ℕ) → o ≢ Some i → IsNewest r x o → IsAbsent r i x c → IsNewest r c o
    without None other none absent = absent.indices_are known ∙ ap (filter (λ k. not (k == i))) none
    without (Some j) other newest absent = newest_absent r i x c known absent j (λ same. other (ap Some same)) newest

-- At each moment of a `put_at` over an entry that is there another newest one stays,
pub newest_replacing : (r : Shape) (i : ℕ) (head x c : List ℕ) → PointsInside r x → is_there r x i ≡ true → IsReplacingEntry r i head x c → (j : ℕ) → j ≢ i → IsNewest r x (Some j) → IsNewest r c (Some j)
newest_replacing r i head x c known was moment j other newest = ⊎_elim
    (λ same. subst (λ (l : List ℕ). IsNewest r l (Some j)) (sym same) newest)
    (λ changed. ⊎_elim
    (λ absent. newest_absent r i x c known absent j other newest)
    (λ replaced. newest_replaced r i head x c known was replaced (Some j) newest) changed)
    moment

-- and where the newest one itself is replaced, it is the newest, or the list is the one without it.
pub newest_itself : (r : Shape) (i : ℕ) (head x c : List ℕ) → PointsInside r x → IsReplacingEntry r i head x c → IsNewest r x (Some i) → IsNewest r c (Some i) ⊎ (indices r c ≡ indices_without r x i)
newest_itself r i head x c known moment newest = ⊎_elim
    (λ same. inl (subst (λ (l : List ℕ). IsNewest r l (Some i)) (sym same) newest))
    (λ changed. ⊎_elim
    (λ absent. inr (absent.indices_are known))
    (λ replaced. inl (newest_replaced r i head x c known newest.there replaced (Some i) newest)) changed)
    moment

-- At each moment of a `set_small` the newest entry is the one before.
pub newest_setting : (r : Shape) (i offset : ℕ) (bytes x c : List ℕ) → PointsInside r x → OrUnwritten (IsSet r i offset bytes) x c → (o : Option ℕ) → IsNewest r x o → IsNewest r c o
newest_setting r i offset bytes x c known moment o newest = ⊎_elim
    (λ same. subst (λ (l : List ℕ). IsNewest r l o) (sym same) newest)
    (λ set. newest_set r i offset bytes x c known set o newest)
    moment
