-- Dense rings stay dense, and hold the newest entries.
use Rattle.std.proofs.Common.{◌≡◌, ◌≢◌, ◌⊎◌, inl, inr, ⊎_elim, ℕ, zero, suc, ◌+◌, ◌-◌, ◌<◌, ◌≤◌, true, false, List, [], ◌∷◌, ◌++◌, length, drop, map, filter, refl, sym, ◌∙◌, ap, subst, arith, length-append, length-drop}
use Rattle.std.proofs.lemmas.Bool.Decides.{nat_tests}
use Rattle.std.proofs.lemmas.Bool.{cases_lt}
use Rattle.std.proofs.lemmas.List.{drop-append-le, length-map}
use Rattle.std.proofs.lemmas.List.FromFn.{length-range_with_len}
use Rattle.std.specs.List.{range_with_len}
use Rattle.gated_ring.specs.Ring.{Shape, pointer, PointsInside, is_there, next, order, indices, taken, staying, up_to, IsRun, IsDense, newest_of}
use Rattle.gated_ring.proofs.Orders.{Each, each_filter, rest, rest_others, order_first, order_last}
use Rattle.gated_ring.proofs.Listing.{taken_chosen, taken_below, staying_there, staying_no_taken, pointer_last, indices_cases}

pub length_rest : (r : Shape) (i : ℕ) → i < r.count → length (rest r i) + 1 ≡ r.count
length_rest r i below = omega (arith, length-append (range_with_len (i + 1) (r.count - (i + 1))) (range_with_len 0 i), length-range_with_len (i + 1) (r.count - (i + 1)), length-range_with_len 0 i)

pub length_order : (r : Shape) (i : ℕ) → i < r.count → length (order r (next r i)) ≡ r.count
length_order r i below = omega (arith, ap length (order_last r i below), length-append (rest r i) (i ∷ []), length_rest r i below)

pub drop_all : (n : ℕ) (l : List ℕ) → length l ≤ n → drop n l ≡ []
drop_all zero [] few = refl
drop_all (suc n) [] few = refl
drop_all zero (a ∷ l) few = absurd (omega (arith, few))
drop_all (suc n) (a ∷ l) few = drop_all n l (omega (arith, few))

pub each_drop : (P : ℕ → Type 0) (n : ℕ) (l : List ℕ) → Each P l → Each P (drop n l)
each_drop P zero l all = all
each_drop P (suc n) [] all = all
each_drop P (suc n) (a ∷ l) all = each_drop P n l all.1

each_last : (P : ℕ → Type 0) (l : List ℕ) (i : ℕ) → Each P (l ++ i ∷ []) → P i
each_last P [] i all = all.0
each_last P (a ∷ l) i all = each_last P l i all.1

-- the indices up to one are the last of those from the next one on
pub up_to_first : (r : Shape) (last i n : ℕ) → i < r.count → next r last ≡ i → n < r.count → up_to r last n ≡ drop (r.count - 1 - n) (rest r i)
up_to_first r last i n below is few =
    let one : r.count - n ≡ suc (r.count - 1 - n) = omega (arith, few) in
    ap (λ (k : ℕ). drop (r.count - n) (order r k)) is ∙ ap (λ (l : List ℕ). drop (r.count - n) l) (order_first r i below) ∙ ap (λ (k : ℕ). drop k (i ∷ rest r i)) one

pub up_to_all : (r : Shape) (last i n : ℕ) → i < r.count → next r last ≡ i → n ≡ r.count → up_to r last n ≡ i ∷ rest r i
up_to_all r last i n below is all =
    let none : r.count - n ≡ 0 = omega (arith, all) in
    ap (λ (k : ℕ). drop (r.count - n) (order r k)) is ∙ ap (λ (l : List ℕ). drop (r.count - n) l) (order_first r i below) ∙ ap (λ (k : ℕ). drop k (i ∷ rest r i)) none

pub up_to_last : (r : Shape) (i n : ℕ) → i < r.count → 0 < n → n ≤ r.count → up_to r i n ≡ drop (r.count - n) (rest r i) ++ i ∷ []
up_to_last r i n below some few =
    ap (λ (l : List ℕ). drop (r.count - n) l) (order_last r i below) ∙ drop-append-le (r.count - n) (rest r i) (i ∷ []) (omega (arith, length_rest r i below, some))

-- some index stands before each
pub before_one : (r : Shape) (i : ℕ) → i < r.count → (last : ℕ) × (last < r.count) × (next r last ≡ i)
before_one r zero below = (r.count - 1, omega arith, grind (arith, nat_tests))
before_one r (suc i) below = (i, omega arith, grind (arith, nat_tests))

-- the entries that stay stand close together, up to the index that is taken
pub record IsTail (r : Shape) (x : List ℕ) : Type 0 where
  pub len : ℕ
  pub few : len < r.count
  pub tail_is : staying r x ≡ drop (r.count - 1 - len) (rest r (taken r x))
  pub full : is_there r x (taken r x) ≡ true → len + 1 ≡ r.count

-- a list that lacks an index neither begins nor ends with it
not_first : (i : ℕ) (l m : List ℕ) → Each (λ j. j ≢ i) l → l ≡ i ∷ m → ⊥
not_first i l m all is = (subst (Each (λ j. j ≢ i)) is all).0 refl

not_last : (i : ℕ) (l m : List ℕ) → Each (λ j. j ≢ i) l → l ≡ m ++ i ∷ [] → ⊥
not_last i l m all is = each_last (λ j. j ≢ i) m i (subst (Each (λ j. j ≢ i)) is all) refl

-- a list that both begins and, behind others, ends with an index has it alone
alone : (i : ℕ) (front m : List ℕ) → Each (λ j. j ≢ i) front → front ++ i ∷ [] ≡ i ∷ m → m ≡ []
alone i [] m all is = ap (drop 1) (sym is)
alone i (f ∷ front) m all is = absurd (all.0 (cc))

module _ (r : Shape) (x : List ℕ) (known : PointsInside r x) where
  below : taken r x < r.count
  below = taken_below r x known

  -- where the run ends before the index that is taken
  tail_before : (last n : ℕ) → next r last ≡ taken r x → n ≤ r.count → indices r x ≡ up_to r last n → IsTail r x
  tail_before last n is few are = ⊎_elim part whole (cases_lt n r.count)
    where
      tail_others : Each (λ j. j ≢ taken r x) (drop (r.count - 1 - n) (rest r (taken r x)))
      tail_others = each_drop (λ j. j ≢ taken r x) (r.count - 1 - n) (rest r (taken r x)) (rest_others r (taken r x) below)

      part : n < r.count → IsTail r x
      part less =
          let run : indices r x ≡ drop (r.count - 1 - n) (rest r (taken r x)) = are ∙ up_to_first r last (taken r x) n below is less in
          ⊎_elim
          (λ there. absurd (not_first (taken r x) (drop (r.count - 1 - n) (rest r (taken r x))) (staying r x) tail_others (sym run ∙ there.1)))
          (λ shut. record { len = n; few = less; tail_is = sym shut.1 ∙ run; full = λ there. absurd (cc (shut.0, there)) })
          (indices_cases r x known)

      whole : r.count ≤ n → IsTail r x
      whole all =
          let run : indices r x ≡ taken r x ∷ rest r (taken r x) = are ∙ up_to_all r last (taken r x) n below is (omega (arith, all, few)) in
          let none : r.count - 1 - (r.count - 1) ≡ 0 = omega arith in
          ⊎_elim
          (λ there. record { len = r.count - 1; few = omega (arith, below); tail_is = ap (drop 1) (sym there.1 ∙ run) ∙ sym (ap (λ (k : ℕ). drop k (rest r (taken r x))) none); full = λ is_there. omega (arith, below) })
          (λ shut. absurd (not_first (taken r x) (staying r x) (rest r (taken r x)) (staying_no_taken r x known) (sym shut.1 ∙ run)))
          (indices_cases r x known)

  -- or at it, where no entry is there
  tail_at : (n : ℕ) → is_there r x (taken r x) ≡ false → n ≤ r.count → indices r x ≡ up_to r (taken r x) n → IsTail r x
  tail_at n shut few are = ⊎_elim
      (λ there. absurd (cc (shut, there.0)))
      (λ stays. ⊎_elim
      (λ some. absurd (not_last (taken r x) (staying r x) (drop (r.count - n) (rest r (taken r x))) (staying_no_taken r x known) (sym stays.1 ∙ are ∙ up_to_last r (taken r x) n below some few)))
      (λ none. empty_tail (sym stays.1 ∙ are ∙ drop_all (r.count - n) (order r (next r (taken r x))) (omega (arith, length_order r (taken r x) below, none))))
      (cases_lt 0 n))
      (indices_cases r x known)
    where
      empty_tail : staying r x ≡ [] → IsTail r x
      empty_tail none = record {
        len = 0;
        few = omega (arith, below);
        tail_is = none ∙ sym (drop_all (r.count - 1 - 0) (rest r (taken r x)) (omega (arith, length_rest r (taken r x) below)));
        full = λ there. absurd (cc (shut, there));
      }

  -- a run that ends before a pointer whose entry is there is one of a single place
  tail_single : (last n : ℕ) → is_there r x (pointer r x) ≡ true → next r last ≡ pointer r x → n ≤ r.count → indices r x ≡ up_to r last n → IsTail r x
  tail_single last n there is few are = ⊎_elim part whole (cases_lt n r.count)
    where
      part : n < r.count → IsTail r x
      part less = absurd (not_last (pointer r x) (drop (r.count - 1 - n) (rest r (pointer r x))) (filter (is_there r x) (rest r (pointer r x)))
          (each_drop (λ j. j ≢ pointer r x) (r.count - 1 - n) (rest r (pointer r x)) (rest_others r (pointer r x) known))
          (sym (up_to_first r last (pointer r x) n known is less) ∙ sym are ∙ pointer_last r x known there))

      whole : r.count ≤ n → IsTail r x
      whole all =
          let run : indices r x ≡ pointer r x ∷ rest r (pointer r x) = are ∙ up_to_all r last (pointer r x) n known is (omega (arith, all, few)) in
          let none : rest r (pointer r x) ≡ [] = alone (pointer r x) (filter (is_there r x) (rest r (pointer r x))) (rest r (pointer r x))
          (each_filter (λ j. j ≢ pointer r x) (is_there r x) (rest r (pointer r x)) (rest_others r (pointer r x) known)) (sym (pointer_last r x known there) ∙ run) in
          let single : r.count ≡ 1 = omega (arith, length_rest r (pointer r x) known, ap length none) in
          let nothing : rest r (taken r x) ≡ [] = drop_all 0 (rest r (taken r x)) (omega (arith, length_rest r (taken r x) below, single)) in
          record {
            len = 0;
            few = omega (arith, single);
            tail_is = staying_there r x known ∙ ap (filter (is_there r x)) nothing ∙ sym (drop_all (r.count - 1 - 0) (rest r (taken r x)) (omega (arith, ap length nothing)));
            full = λ is_there. omega (arith, single);
          }

  pub tail_of : IsDense r x → IsTail r x
  tail_of dense = ⊎_elim empty (λ run. standing run.0 run.1) dense
    where
      empty : indices r x ≡ [] → IsTail r x
      empty none = ⊎_elim
          (λ there. absurd (cc (none, there.1)))
          (λ shut. tail_at 0 shut.0 (omega arith) (none ∙ sym (drop_all (r.count - 0) (order r (next r (taken r x))) (omega (arith, length_order r (taken r x) below)))))
          (indices_cases r x known)

      standing : (last : ℕ) → IsRun r x last → IsTail r x
      standing last run = ⊎_elim
          (λ open_one. ⊎_elim
          (λ at. tail_before last run.len (ap (next r) at ∙ sym open_one.1) run.few run.indices_are)
          (λ before. tail_single last run.len open_one.0 before run.few run.indices_are)
          run.at_pointer)
          (λ shut_one. ⊎_elim
          (λ at. tail_at run.len (ap (is_there r x) shut_one.1 ∙ shut_one.0) run.few (run.indices_are ∙ ap (λ (k : ℕ). up_to r k run.len) (at ∙ sym shut_one.1)))
          (λ before. tail_before last run.len (before ∙ sym shut_one.1) run.few run.indices_are)
          run.at_pointer)
          (taken_chosen r x)

  -- the ring without the entry whose place is taken is dense, wherever its pointer stands
  pub dense_shortened : IsDense r x → (c : List ℕ) → (pointer r c ≡ pointer r x) ⊎ (pointer r c ≡ taken r x) → indices r c ≡ staying r x → IsDense r c
  dense_shortened dense c which are =
      let tail = tail_of dense in
      let run : (last : ℕ) → next r last ≡ taken r x → indices r c ≡ up_to r last tail.len = λ last is. are ∙ tail.tail_is ∙ sym (up_to_first r last (taken r x) tail.len below is tail.few) in
      ⊎_elim
      (λ open_one. inr (
        pointer r x,
        record {
          below = known;
          at_pointer = ⊎_elim (λ was. inl (sym was)) (λ moved. inr (sym open_one.1 ∙ sym moved)) which;
          len = tail.len;
          few = omega (arith, tail.few);
          indices_are = run (pointer r x) (sym open_one.1);
        },
      ))
      (λ shut_one. let last = before_one r (taken r x) below in inr (
        last.0,
        record {
          below = last.1;
          at_pointer = inr (last.2 ∙ ⊎_elim (λ was. shut_one.1 ∙ sym was) (λ moved. sym moved) which);
          len = tail.len;
          few = omega (arith, tail.few);
          indices_are = run last.0 last.2;
        },
      ))
      (taken_chosen r x)

  -- and with the new one
  pub dense_extended : IsDense r x → (c : List ℕ) → pointer r c ≡ taken r x → indices r c ≡ staying r x ++ taken r x ∷ [] → IsDense r c
  dense_extended dense c moved are =
      let tail = tail_of dense in
      let one : r.count - 1 - tail.len ≡ r.count - (tail.len + 1) = omega arith in
      inr (
        taken r x,
        record {
          below = below;
          at_pointer = inl (sym moved);
          len = tail.len + 1;
          few = omega (arith, tail.few);
          indices_are = are ∙ ap (λ (l : List ℕ). l ++ taken r x ∷ []) (tail.tail_is ∙ ap (λ (k : ℕ). drop k (rest r (taken r x))) one)
              ∙ sym (up_to_last r (taken r x) (tail.len + 1) below (omega arith) (omega (arith, tail.few)));
        },
      )

  -- the entries that stay are the newest, and there is room for one more
  newest_staying : {X : Type 0} (entry : ℕ → X) → IsDense r x → (length (map entry (staying r x)) < r.count) × ((map entry (indices r x) ≡ map entry (staying r x)) ⊎ ((length (map entry (staying r x)) + 1 ≡ r.count) × (map entry (indices r x) ≡ entry (taken r x) ∷ map entry (staying r x))))
  newest_staying {X} entry dense =
      let tail = tail_of dense in
      let len_stays : length (map entry (staying r x)) ≡ tail.len = omega (arith, length-map (staying r x) entry, ap length tail.tail_is, length-drop (r.count - 1 - tail.len) (rest r (taken r x)), length_rest r (taken r x) below, tail.few) in (
        omega (arith, len_stays, tail.few),
        ⊎_elim
            (λ there. inr (omega (arith, len_stays, tail.full there.0), ap (map entry) there.1))
            (λ shut. inl (ap (map entry) shut.1))
            (indices_cases r x known),
      )

  -- said of anything that is made of an index
  pub newest_shortened : {X : Type 0} (entry : ℕ → X) → IsDense r x → map entry (staying r x) ≡ newest_of (r.count - 1) (map entry (indices r x))
  newest_shortened {X} entry dense =
      let stays = newest_staying entry dense in
      let list = map entry (indices r x) in
      ⊎_elim
      (λ all.
      let none : length list - (r.count - 1) ≡ 0 = omega (arith, ap length all, stays.0) in
      sym (ap (λ (k : ℕ). drop k list) none ∙ all))
      (λ full.
      let one : length list - (r.count - 1) ≡ 1 = omega (arith, ap length full.1, full.0) in
      sym (ap (λ (k : ℕ). drop k list) one ∙ ap (drop 1) full.1))
      stays.1

  -- with a new one, without the oldest where each place was taken
  pub newest_extended : {X : Type 0} (entry : ℕ → X) → IsDense r x → (new : X) → map entry (staying r x) ++ new ∷ [] ≡ newest_of r.count (map entry (indices r x) ++ new ∷ [])
  newest_extended {X} entry dense new =
      let stays = newest_staying entry dense in
      let list = map entry (indices r x) in
      let more : length (list ++ new ∷ []) ≡ length list + 1 = omega (arith, length-append list (new ∷ [])) in
      ⊎_elim
      (λ all.
      let none : length (list ++ new ∷ []) - r.count ≡ 0 = omega (arith, more, ap length all, stays.0) in
      sym (ap (λ (k : ℕ). drop k (list ++ new ∷ [])) none ∙ ap (λ (l : List X). l ++ new ∷ []) all))
      (λ full.
      let one : length (list ++ new ∷ []) - r.count ≡ 1 = omega (arith, more, ap length full.1, full.0) in
      sym (ap (λ (k : ℕ). drop k (list ++ new ∷ [])) one ∙ ap (λ (l : List X). drop 1 (l ++ new ∷ [])) full.1))
      stays.1
