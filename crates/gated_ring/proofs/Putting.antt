-- One entry is replaced, closed, or written in a few bytes, and the others stay.
use Rattle.std.proofs.Common.{◌≡◌, ◌≢◌, ◌⊎◌, inl, inr, ⊎_elim, ℕ, ◌+◌, ◌-◌, ◌<◌, ◌≤◌, Bool, true, false, not, cond, ◌||◌, List, [], ◌∷◌, ◌++◌, length, take, drop, map, filter, replicate, refl, sym, ◌∙◌, ap, subst, arith, lit≤}
use Rattle.std.specs.Prelude.{◌==◌, if◌then◌else◌}
use Rattle.tach_media.specs.card_layout.Images.{big_number}
use Rattle.std.proofs.lemmas.Bool.Decides.{nat_tests}
use Rattle.std.proofs.lemmas.Bool.{cases_eq, cases_lt}
use Rattle.std.proofs.lemmas.List.{take-take, drop-take, drop-drop}
use Rattle.tach_media.specs.Medium.{put, bytes_at, SameOutside, IsPartlyWritten}
use Rattle.tach_media.proofs.Images.{put_outside, part_before, part_after, part_put, part_split, outside_wider, outside_then}
use Rattle.gated_ring.specs.Ring.{Shape, IsShape, size_of, place_of, gate_of, pointer, PointsInside, is_there, entry_at, next, order, indices, indices_with, indices_without, gate_number, with_head, up_to, IsRun, IsDense}
use Rattle.gated_ring.specs.Change.{SameOthers, IsReplaced, IsAbsent, IsReplacingEntry, IsClosed, IsSet, OrUnwritten}
use Rattle.gated_ring.proofs.Steps.{freed, with_body, replaced, IsReplacing}
use Rattle.gated_ring.proofs.Places.{place_high}
use Rattle.gated_ring.proofs.Others.{IsShut, others_same, pointer_same, shut_zeros, shut_filling}
use Rattle.gated_ring.proofs.Orders.{Each, each_weaker, each_filter, next_below, rest, rest_others, order_each, filter_same, map_same, without_none, without_one, without_last}
use Rattle.gated_ring.proofs.Listing.{indices_below}
use Rattle.gated_ring.proofs.Dense.{before_one, up_to_first, up_to_all, up_to_last, drop_all, each_drop, length_order}
use Rattle.gated_ring.proofs.Writing.{shut_0, shut_1, gate_length, opened_same, opened_there, opened_entry}

-- a list by answers that are false at one index
filter_shut : (p q : ℕ → Bool) (i : ℕ) (js : List ℕ) → q i ≡ false → Each (λ j. j ≢ i → q j ≡ p j) js → filter q js ≡ filter (λ j. not (j == i)) (filter p js)
filter_shut p q i [] shut all = refl
filter_shut p q i (j ∷ js) shut all = by_index (cases_eq j i) (filter_shut p q i js shut all.1)
  where
    by_index : (j ≡ i) ⊎ (j ≢ i) → filter q js ≡ filter (λ k. not (k == i)) (filter p js) → filter q (j ∷ js) ≡ filter (λ k. not (k == i)) (filter p (j ∷ js))
    by_index (inl is) tail = ap (λ (b : Bool). cond b (j ∷ filter q js) (filter q js)) (ap q is ∙ shut) ∙ tail ∙ gone (p j)
      where
        gone : (b : Bool) → filter (λ k. not (k == i)) (filter p js) ≡ filter (λ k. not (k == i)) (cond b (j ∷ filter p js) (filter p js))
        gone true = let same : (j == i) ≡ true = grind (arith, nat_tests, is) in
            sym (ap (λ (b : Bool). cond (not b) (j ∷ filter (λ k. not (k == i)) (filter p js)) (filter (λ k. not (k == i)) (filter p js))) same)
        gone false = refl
    by_index (inr other) tail = ap (λ (b : Bool). cond b (j ∷ filter q js) (filter q js)) (all.0 other) ∙ stays (p j)
      where
        stays : (b : Bool) → cond b (j ∷ filter q js) (filter q js) ≡ filter (λ k. not (k == i)) (cond b (j ∷ filter p js) (filter p js))
        stays true = let differs : (j == i) ≡ false = grind (arith, nat_tests, other) in
            ap (λ (l : List ℕ). j ∷ l) tail ∙ sym (ap (λ (b : Bool). cond (not b) (j ∷ filter (λ k. not (k == i)) (filter p js)) (filter (λ k. not (k == i)) (filter p js))) differs)
        stays false = tail

-- the part of an image in which a few bytes were written
part_inside : (x bytes : List ℕ) (a o w : ℕ) → o + length bytes ≤ w → a + w ≤ length x → bytes_at (put (a + o) bytes x) a w ≡ put o bytes (bytes_at x a w)
part_inside x bytes a o w fits inside =
    let n = length bytes in
    let k = w - (o + n) in
    let y = put (a + o) bytes x in
    let all : o + (n + k) ≡ w = omega (arith, fits) in
    let whole : o + n + k ≡ w = omega (arith, fits) in
    let same : SameOutside (a + o) n x y = put_outside (a + o) bytes x (omega (arith, fits, inside)) in
    let behind : bytes_at y (a + o + n) k ≡ drop (o + n) (bytes_at x a w) =
    part_after (a + o) n (a + o + n) k x y same (omega arith) ∙ ap (λ (m : ℕ). bytes_at x m k) (omega arith)
    ∙ sym (ap (λ (m : ℕ). drop (o + n) (bytes_at x a m)) (sym whole) ∙ drop-take (o + n) k (drop a x) ∙ ap (λ (l : List ℕ). take k l) (drop-drop (o + n) a x)) in
    ap (λ (m : ℕ). bytes_at y a m) (sym all) ∙ part_split y a o (n + k)
    ∙ ap (λ (l : List ℕ). l ++ bytes_at y (a + o) (n + k)) (part_before (a + o) n a o x y same (omega arith) ∙ sym (take-take o w (drop a x) (omega (arith, fits))))
    ∙ ap (λ (l : List ℕ). take o (bytes_at x a w) ++ l) (part_split y (a + o) n k)
    ∙ ap (λ (l : List ℕ). take o (bytes_at x a w) ++ (l ++ bytes_at y (a + o + n) k)) (part_put (a + o) bytes x (omega (arith, fits, inside)))
    ∙ ap (λ (l : List ℕ). take o (bytes_at x a w) ++ (bytes ++ l)) behind

module _ (r : Shape) (shape : IsShape r) (x : List ℕ) (i : ℕ) (below : i < r.count) (c : List ℕ) (same : SameOutside (place_of r i) r.width x c) where
  others : SameOthers r i x c
  others = others_same r shape i below x c same

  pointer_kept : pointer r c ≡ pointer r x
  pointer_kept = pointer_same r shape i below x c same

  module _ (known : PointsInside r x) where
    all_below : Each (λ j. j < r.count) (order r (next r (pointer r x)))
    all_below = order_each r (next r (pointer r x)) (next_below r (pointer r x) known)

    -- the list by other answers
    indices_by : indices r c ≡ filter (is_there r c) (order r (next r (pointer r x)))
    unfolding indices
    indices_by = ap (λ (q : ℕ). filter (is_there r c) (order r (next r q))) pointer_kept

    absent_indices : is_there r c i ≡ false → indices r c ≡ indices_without r x i
    unfolding indices indices_without
    absent_indices shut = indices_by ∙ filter_shut (is_there r x) (is_there r c) i (order r (next r (pointer r x))) shut
        (each_weaker (λ j. j < r.count) (λ j. j ≢ i → is_there r c j ≡ is_there r x j) (order r (next r (pointer r x))) (λ j j_below other. (others j j_below other).1) all_below)

    with_indices : is_there r c i ≡ true → indices r c ≡ indices_with r x i
    unfolding indices_with
    with_indices there = indices_by ∙ filter_same (λ j. (j == i) || is_there r x j) (is_there r c) (order r (next r (pointer r x)))
        (each_weaker (λ j. j < r.count) (λ j. is_there r c j ≡ ((j == i) || is_there r x j)) (order r (next r (pointer r x))) (λ j j_below. answer j j_below (cases_eq j i)) all_below)
      where
        answer : (j : ℕ) → j < r.count → (j ≡ i) ⊎ (j ≢ i) → is_there r c j ≡ ((j == i) || is_there r x j)
        answer j j_below (inl is) = let yes : (j == i) ≡ true = grind (arith, nat_tests, is) in ap (is_there r c) is ∙ there ∙ sym (ap (λ (b : Bool). b || is_there r x j) yes)
        answer j j_below (inr other) = let no : (j == i) ≡ false = grind (arith, nat_tests, other) in (others j j_below other).1 ∙ sym (ap (λ (b : Bool). b || is_there r x j) no)

    same_indices : is_there r c i ≡ is_there r x i → indices r c ≡ indices r x
    unfolding indices
    same_indices kept = indices_by ∙ filter_same (is_there r x) (is_there r c) (order r (next r (pointer r x)))
        (each_weaker (λ j. j < r.count) (λ j. is_there r c j ≡ is_there r x j) (order r (next r (pointer r x))) (λ j j_below. answer j j_below (cases_eq j i)) all_below)
      where
        answer : (j : ℕ) → j < r.count → (j ≡ i) ⊎ (j ≢ i) → is_there r c j ≡ is_there r x j
        answer j j_below (inl is) = ap (is_there r c) is ∙ kept ∙ sym (ap (is_there r x) is)
        answer j j_below (inr other) = (others j j_below other).1

    -- the entries of a list, with another one at the index
    entries_with : (e : List ℕ) (js : List ℕ) → entry_at r c i ≡ e → Each (λ j. j < r.count) js → map (entry_at r c) js ≡ map (λ j. if j == i then e else entry_at r x j) js
    entries_with e js is all = map_same (λ j. if j == i then e else entry_at r x j) (entry_at r c) js
        (each_weaker (λ j. j < r.count) (λ j. entry_at r c j ≡ (if j == i then e else entry_at r x j)) js (λ j j_below. answer j j_below (cases_eq j i)) all)
      where
        answer : (j : ℕ) → j < r.count → (j ≡ i) ⊎ (j ≢ i) → entry_at r c j ≡ (if j == i then e else entry_at r x j)
        answer j j_below (inl at) = let yes : (j == i) ≡ true = grind (arith, nat_tests, at) in ap (entry_at r c) at ∙ is ∙ sym (ap (λ (b : Bool). cond b e (entry_at r x j)) yes)
        answer j j_below (inr other) = let no : (j == i) ≡ false = grind (arith, nat_tests, other) in (others j j_below other).0 ∙ sym (ap (λ (b : Bool). cond b e (entry_at r x j)) no)

    with_below : Each (λ j. j < r.count) (indices_with r x i)
    unfolding indices_with
    with_below = each_filter (λ j. j < r.count) (λ j. (j == i) || is_there r x j) (order r (next r (pointer r x))) all_below

    -- the entries of the list without the index
    absent_entries : map (entry_at r c) (indices_without r x i) ≡ map (entry_at r x) (indices_without r x i)
    unfolding indices_without
    absent_entries = by (indices r x) (indices_below r x known)
      where
        by : (js : List ℕ) → Each (λ j. j < r.count) js → map (entry_at r c) (filter (λ j. not (j == i)) js) ≡ map (entry_at r x) (filter (λ j. not (j == i)) js)
        by [] all = refl
        by (j ∷ js) all = at (cases_eq j i) (by js all.1)
          where
            at : (j ≡ i) ⊎ (j ≢ i) → map (entry_at r c) (filter (λ k. not (k == i)) js) ≡ map (entry_at r x) (filter (λ k. not (k == i)) js)
                → map (entry_at r c) (filter (λ k. not (k == i)) (j ∷ js)) ≡ map (entry_at r x) (filter (λ k. not (k == i)) (j ∷ js))
            at (inl is) tail = let yes : (j == i) ≡ true = grind (arith, nat_tests, is) in
                let gone : filter (λ k. not (k == i)) (j ∷ js) ≡ filter (λ k. not (k == i)) js = ap (λ (b : Bool). cond (not b) (j ∷ filter (λ k. not (k == i)) js) (filter (λ k. not (k == i)) js)) yes in
                ap (map (entry_at r c)) gone ∙ tail ∙ sym (ap (map (entry_at r x)) gone)
            at (inr other) tail = let no : (j == i) ≡ false = grind (arith, nat_tests, other) in
                let stays : filter (λ k. not (k == i)) (j ∷ js) ≡ j ∷ filter (λ k. not (k == i)) js = ap (λ (b : Bool). cond (not b) (j ∷ filter (λ k. not (k == i)) js) (filter (λ k. not (k == i)) js)) no in
                ap (map (entry_at r c)) stays ∙ ap (λ (e : List ℕ). e ∷ map (entry_at r c) (filter (λ k. not (k == i)) js)) (others j all.0 other).0
                ∙ ap (λ (l : List (List ℕ)). entry_at r x j ∷ l) tail ∙ sym (ap (map (entry_at r x)) stays)

    -- the last of the indices behind the pointer's stand close together
    dense_tail : (k : ℕ) → k < r.count → i ≡ pointer r x → indices r c ≡ drop k (rest r i) → IsDense r c
    dense_tail k few at are =
        let last = before_one r i below in
        let one : k ≡ r.count - 1 - (r.count - 1 - k) = omega (arith, few) in
        inr (
          last.0,
          record {
            below = last.1;
            at_pointer = inr (last.2 ∙ at ∙ sym pointer_kept);
            len = r.count - 1 - k;
            few = omega arith;
            indices_are = are ∙ ap (λ (m : ℕ). drop m (rest r i)) one ∙ sym (up_to_first r last.0 i (r.count - 1 - k) below last.2 (omega (arith, few)));
          },
        )

    absent_dense : is_there r c i ≡ false → i ≡ pointer r x → IsDense r x → IsDense r c
    unfolding indices_without
    absent_dense shut at dense = ⊎_elim (λ none. inl (without_is [] none)) (λ run. standing run.0 run.1) dense
      where
        without_is : (js : List ℕ) → indices r x ≡ js → indices r c ≡ filter (λ j. not (j == i)) js
        without_is js are = absent_indices shut ∙ ap (filter (λ j. not (j == i))) are

        standing : (last : ℕ) → IsRun r x last → IsDense r c
        standing last run = ⊎_elim
            (λ here. ⊎_elim
            (λ some. dense_tail (r.count - run.len) (omega (arith, some, below)) at
            (without_is (drop (r.count - run.len) (rest r i) ++ i ∷ []) (run.indices_are ∙ ap (λ (k : ℕ). up_to r k run.len) (here ∙ sym at) ∙ up_to_last r i run.len below some run.few)
            ∙ without_last i (drop (r.count - run.len) (rest r i)) (each_drop (λ j. j ≢ i) (r.count - run.len) (rest r i) (rest_others r i below))))
            (λ none. inl (without_is [] (run.indices_are ∙ drop_all (r.count - run.len) (order r (next r last)) (omega (arith, length_order r last run.below, none)))))
            (cases_lt 0 run.len))
            (λ before. ⊎_elim
            (λ less. dense_tail (r.count - 1 - run.len) (omega (arith, below)) at
            (without_is (drop (r.count - 1 - run.len) (rest r i)) (run.indices_are ∙ up_to_first r last i run.len below (before ∙ sym at) less)
            ∙ without_none i (drop (r.count - 1 - run.len) (rest r i)) (each_drop (λ j. j ≢ i) (r.count - 1 - run.len) (rest r i) (rest_others r i below))))
            (λ all. dense_tail 0 (omega (arith, below)) at
            (without_is (i ∷ rest r i) (run.indices_are ∙ up_to_all r last i run.len below (before ∙ sym at) (omega (arith, all, run.few)))
            ∙ without_one i (rest r i) ∙ without_none i (rest r i) (rest_others r i below)))
            (cases_lt run.len r.count))
            run.at_pointer

  pub absent : is_there r c i ≡ false → IsAbsent r i x c
  absent shut = record {
    outside = same;
    others = others;
    shut = shut;
    pointer_is = pointer_kept;
    indices_are = λ known. absent_indices known shut;
    list_is = λ known. ap (map (entry_at r c)) (absent_indices known shut) ∙ absent_entries known;
    dense = λ known at dense. absent_dense known shut at dense;
  }

  replaced_so : (head : List ℕ) → is_there r c i ≡ true → entry_at r c i ≡ with_head r x i head → IsReplaced r i head x c
  replaced_so head there entry = record {
    outside = same;
    others = others;
    there = there;
    entry = entry;
    pointer_is = pointer_kept;
    indices_are = λ known. with_indices known there;
    list_is = λ known. ap (map (entry_at r c)) (with_indices known there) ∙ entries_with known (with_head r x i head) (indices_with r x i) entry (with_below known);
  }

module _ (r : Shape) (shape : IsShape r) (x : List ℕ) (inside : r.base + size_of r ≤ length x) (i : ℕ) (below : i < r.count) where
  -- a gate that is shut, and the moments of that write
  pub closed : (y : List ℕ) → y ≡ put (gate_of r i) (replicate 4 0) x → IsClosed r i x y
  closed y is =
      let shut : IsShut r i x y = subst (IsShut r i x) (sym is) (shut_zeros r shape i below x inside) in
      record { image_is = is; absent = absent r shape x i below y shut.outside shut.shut }

  pub closing : (c : List ℕ) → IsPartlyWritten (gate_of r i) (replicate 4 0) x c → OrUnwritten (IsClosed r i) x c
  closing c part = ⊎_elim (λ none. inl none) (λ whole. inr (closed c whole)) (part.whole (lit≤ tt))

  -- a few bytes of an entry, beside its gate
  module _ (offset : ℕ) (bytes : List ℕ) (few : length bytes ≤ 4) (fits : offset + length bytes ≤ r.width) (apart : (offset + length bytes ≤ r.gate) ⊎ (r.gate + 4 ≤ offset)) where
    entry_inside : place_of r i + r.width ≤ length x
    entry_inside = omega (arith, place_high r i below, inside)

    bytes_same : SameOutside (place_of r i + offset) (length bytes) x (put (place_of r i + offset) bytes x)
    bytes_same = put_outside (place_of r i + offset) bytes x (omega (arith, entry_inside, fits))

    pub set : (y : List ℕ) → y ≡ put (place_of r i + offset) bytes x → IsSet r i offset bytes x y
    set y is =
        let from : SameOutside (place_of r i + offset) (length bytes) x y = subst (λ (l : List ℕ). SameOutside (place_of r i + offset) (length bytes) x l) (sym is) bytes_same in
        let same : SameOutside (place_of r i) r.width x y = outside_wider (place_of r i) r.width (place_of r i + offset) (length bytes) x y from (omega arith) (omega (arith, fits)) in
        let gate : bytes_at y (gate_of r i) 4 ≡ bytes_at x (gate_of r i) 4 = ⊎_elim
        (λ front. part_after (place_of r i + offset) (length bytes) (gate_of r i) 4 x y from (omega (arith, front)))
        (λ back. part_before (place_of r i + offset) (length bytes) (gate_of r i) 4 x y from (omega (arith, back)))
        apart in
        let there : is_there r y i ≡ is_there r x i = ap (λ (b : List ℕ). not (big_number 4 b == 0)) gate in
        let entry : entry_at r y i ≡ put offset bytes (entry_at r x i) = ap (λ (l : List ℕ). entry_at r l i) is ∙ part_inside x bytes (place_of r i) offset r.width fits entry_inside in
        record {
          image_is = is;
          outside = same;
          others = others r shape x i below y same;
          there = there;
          entry = entry;
          pointer_is = pointer_kept r shape x i below y same;
          indices_are = λ known. same_indices r shape x i below y same known there;
          list_is = λ known. ap (map (entry_at r y)) (same_indices r shape x i below y same known there)
              ∙ entries_with r shape x i below y same known (put offset bytes (entry_at r x i)) (indices r x) entry (indices_below r x known);
        }

    pub setting : (c : List ℕ) → IsPartlyWritten (place_of r i + offset) bytes x c → OrUnwritten (IsSet r i offset bytes) x c
    setting c part = ⊎_elim (λ none. inl none) (λ whole. inr (set c whole)) (part.whole few)

  -- the whole entry, gate last
  module _ (head : List ℕ) (gate_fits : r.gate + 4 ≤ length head) (width_fits : length head ≤ r.width) (gate_open : gate_number r head ≢ 0) where
    abbrev y1 : List ℕ
    y1 = with_body r i head (freed r i x)

    is_shut : IsShut r i x y1
    is_shut = shut_1 r shape x inside i below head gate_fits width_fits

    pub is_replaced : (y : List ℕ) → y ≡ replaced r i head x → IsReplaced r i head x y
    is_replaced y is = subst (IsReplaced r i head x) (sym is) (replaced_so r shape x i below (replaced r i head x)
        (outside_then (place_of r i) r.width x y1 (replaced r i head x) is_shut.outside (opened_same r shape x inside i below head gate_fits width_fits y1 is_shut.outside.same_length (λ q n low. refl)))
        head
        (opened_there r shape x inside i below head gate_fits width_fits y1 is_shut.outside.same_length (λ q n low. refl) gate_open)
        (opened_entry r shape x inside i below head gate_fits width_fits y1 is_shut.outside.same_length (λ q n low. refl)))

    absent_so : (c : List ℕ) → IsShut r i x c → IsAbsent r i x c
    absent_so c shut = absent r shape x i below c shut.outside shut.shut

    pub replacing : (c : List ℕ) → IsReplacing r i head x c → IsReplacingEntry r i head x c
    replacing c (inl shutting) = ⊎_elim (λ none. inl none) (λ whole. inr (inl (absent_so c (subst (IsShut r i x) (sym whole) (shut_zeros r shape i below x inside))))) (shutting.whole (lit≤ tt))
    replacing c (inr (inl filling)) = inr (inl (absent_so c (shut_filling r shape i below x inside (freed r i x) c (shut_0 r shape x inside i below head gate_fits width_fits) filling)))
    replacing c (inr (inr opening)) = ⊎_elim
        (λ none. inr (inl (absent_so c (subst (IsShut r i x) (sym none) is_shut))))
        (λ whole. inr (inr (is_replaced c whole)))
        (opening.whole (omega (arith, gate_length r shape x inside i below head gate_fits width_fits)))
