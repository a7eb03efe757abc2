-- What is judged in parts is the whole.
use Rattle.std.proofs.Common.{◌≡◌, ℕ, ◌+◌, ◌-◌, ◌/◌, ◌<◌, ◌≤◌, Bool, true, false, cond, List, [], ◌∷◌, ◌++◌, length, map, filter, Option, Some, None, is_some, refl, sym, ◌∙◌, ap, arith}
use Rattle.std.specs.Prelude.{◌==◌, ◌&&◌, ◌||◌, nat_le, nat_lt, flat_map}
use Rattle.std.specs.List.{list_any, range_with_len}
use Rattle.std.proofs.lemmas.Bool.Decides.{nat_tests}
use Rattle.std.proofs.lemmas.List.{append-nil}
use Rattle.unit_model.specs.gated_ring.Ring.{pointer, is_there, next, order, indices as ring_indices}
use Rattle.unit_model.proofs.gated_ring.Orders.{range_split}
use Rattle.unit_model.specs.declared.layout.TheConstants.{DAYS, DAY_SLOTS}
use Rattle.unit_model.specs.Image.{last_kept, day_ring, indices}
use Rattle.unit_model.specs.Decoding.{Check, check, first_failing, front_checks, cell_checks, ring_checks, slot_checks, checks, first_bad_place, has_day, is_pointer_good, is_last_good, are_dense, indices_before}
use Rattle.unit_memory.specs.Walks.{walk_start, walk_from}
use Rattle.unit_memory.specs.Judging.{slots_by, front_by, is_whole, pointer_passes, turn_at, walk_round}
use Rattle.unit_model.specs.Decoding.{or_failing, or_else}
use Rattle.unit_memory.specs.declared.walk.Walk.{Walk}
use Rattle.unit_model.proofs.Failing.{failing_append}
use Rattle.unit_memory.proofs.Walking.{walk_append}
use Rattle.unit_memory.proofs.WalkLaws.{last_from, walk_latest, walk_density, walk_last, walk_there, walk_today, is_day, slots_same}

any_append : (p : ℕ → Bool) (a b : List ℕ) → list_any p (a ++ b) ≡ (list_any p a || list_any p b)
any_append p [] b = refl
any_append p (x ∷ xs) b = by (p x) (any_append p xs b)
  where
    by : (c : Bool) → list_any p (xs ++ b) ≡ (list_any p xs || list_any p b) → (c || list_any p (xs ++ b)) ≡ ((c || list_any p xs) || list_any p b)
    by true more = refl
    by false more = more

or_swap : (a b : Bool) → (a || b) ≡ (b || a)
or_swap true true = refl
or_swap true false = refl
or_swap false true = refl
or_swap false false = refl

flat_append : (f : ℕ → List Check) (a b : List ℕ) → flat_map f (a ++ b) ≡ flat_map f a ++ flat_map f b
flat_append f [] b = refl
flat_append f (x ∷ xs) b = ap (λ (l : List Check). f x ++ l) (flat_append f xs b) ∙ sym (Rattle.std.proofs.Common.append_assoc (f x) (flat_map f xs) (flat_map f b))

module _ (x : List ℕ) where
  abbrev p : ℕ
  p = pointer day_ring x

  abbrev kept : ℕ
  kept = last_kept x

  abbrev q : ℕ
  q = turn_at p

  abbrev front_half : List ℕ
  front_half = range_with_len 0 q

  abbrev back_half : List ℕ
  back_half = range_with_len q (DAY_SLOTS - q)

  abbrev around : List ℕ
  around = back_half ++ front_half

  turn_low : q ≤ DAY_SLOTS
  turn_low = by (nat_lt p DAY_SLOTS) refl
    where
      by : (b : Bool) → nat_lt p DAY_SLOTS ≡ b → cond b (p + 1) DAY_SLOTS ≤ DAY_SLOTS
      by true is = let less : p < DAY_SLOTS = grind (arith, nat_tests, is) in omega (arith, less)
      by false is = omega arith

  whole_range : range_with_len 0 DAY_SLOTS ≡ front_half ++ back_half
  whole_range = ap (range_with_len 0) (let e : DAY_SLOTS ≡ q + (DAY_SLOTS - q) = omega (arith, turn_low) in e) ∙ range_split 0 q (DAY_SLOTS - q) ∙ ap (λ (a : ℕ). front_half ++ range_with_len a (DAY_SLOTS - q)) (let e : 0 + q ≡ q = omega arith in e)

  round_is : walk_round (kept / 1440) q x ≡ walk_from (kept / 1440) x walk_start around
  round_is = sym (walk_append (kept / 1440) x walk_start back_half front_half)

  -- the order of the ring is round from the turn
  order_is : p < DAY_SLOTS → order day_ring (next day_ring p) ≡ around
  order_is less = by (p + 1 == DAY_SLOTS) refl
    where
      q_is : q ≡ p + 1
      q_is = let on : nat_lt p DAY_SLOTS ≡ true = grind (arith, nat_tests) in ap (λ (b : Bool). cond b (p + 1) DAY_SLOTS) on

      by : (b : Bool) → (p + 1 == DAY_SLOTS) ≡ b → order day_ring (cond b 0 (p + 1)) ≡ around
      by true is =
          let last : p + 1 ≡ DAY_SLOTS = grind (arith, nat_tests, is) in
          append-nil (range_with_len 0 DAY_SLOTS) ∙ ap (λ (n : ℕ). range_with_len 0 n) (sym (q_is ∙ last)) ∙ ap (λ (n : ℕ). range_with_len q n ++ front_half) (let e : 0 ≡ DAY_SLOTS - q = omega (arith, q_is, last) in e)
      by false is = ap (λ (n : ℕ). range_with_len n (DAY_SLOTS - n) ++ range_with_len 0 n) (sym q_is)

  pub has_today : is_some (walk_round (kept / 1440) q x).today ≡ has_day x (kept / 1440)
  has_today =
      ap (λ (w : Walk). is_some w.today) round_is ∙ walk_today (kept / 1440) x walk_start around
      ∙ any_append (is_day (kept / 1440) x) back_half front_half ∙ or_swap (list_any (is_day (kept / 1440) x) back_half) (list_any (is_day (kept / 1440) x) front_half)
      ∙ sym (ap (list_any (is_day (kept / 1440) x)) whole_range ∙ any_append (is_day (kept / 1440) x) front_half back_half)

  pub front_same : front_by kept (is_some (walk_round (kept / 1440) q x).today) x ≡ front_checks x
  front_same = ap (λ (b : Bool). front_by kept b x) has_today

  pub pointer_same : pointer_passes kept p (walk_round (kept / 1440) q x) ≡ is_pointer_good x
  unfolding indices ring_indices
  pointer_same = by (nat_lt p DAY_SLOTS) refl
    where
      empty_good : (js : List ℕ) → last_from x p walk_start js ≡ is_last_good x p js
      empty_good [] = let e : nat_le (0 / 86400) (kept / 1440) ≡ true = grind (arith, nat_tests) in ap (λ (b : Bool). b || 0 == p) e
      empty_good (j ∷ js) = refl

      inner : p < DAY_SLOTS → (is_whole (walk_round (kept / 1440) q x).density && (nat_le ((walk_round (kept / 1440) q x).last_date / 86400) (kept / 1440) || (walk_round (kept / 1440) q x).last_index == p))
          ≡ (are_dense (map (is_there day_ring x) (order day_ring (next day_ring p))) && is_last_good x p (indices x))
      inner less =
          let density : is_whole (walk_round (kept / 1440) q x).density ≡ are_dense (map (is_there day_ring x) (order day_ring (next day_ring p))) =
          ap (λ (w : Walk). is_whole w.density) round_is ∙ walk_density (kept / 1440) x walk_start around ∙ ap (λ (l : List ℕ). are_dense (map (is_there day_ring x) l)) (sym (order_is less)) in
          let last : (nat_le ((walk_round (kept / 1440) q x).last_date / 86400) (kept / 1440) || (walk_round (kept / 1440) q x).last_index == p) ≡ is_last_good x p (filter (is_there day_ring x) (order day_ring (next day_ring p))) =
          ap (λ (w : Walk). nat_le (w.last_date / 86400) (kept / 1440) || w.last_index == p) round_is ∙ walk_last (kept / 1440) x p walk_start around ∙ empty_good (filter (is_there day_ring x) around)
          ∙ ap (λ (l : List ℕ). is_last_good x p (filter (is_there day_ring x) l)) (sym (order_is less)) in
          λ i. density i && last i

      by : (b : Bool) → nat_lt p DAY_SLOTS ≡ b → (nat_lt p DAY_SLOTS && (is_whole (walk_round (kept / 1440) q x).density && (nat_le ((walk_round (kept / 1440) q x).last_date / 86400) (kept / 1440) || (walk_round (kept / 1440) q x).last_index == p)))
          ≡ (nat_lt p DAY_SLOTS && (are_dense (map (is_there day_ring x) (order day_ring (next day_ring p))) && is_last_good x p (indices x)))
      by true is = ap (λ (b : Bool). nat_lt p DAY_SLOTS && b) (inner (grind (arith, nat_tests, is)))
      by false is = ap (λ (b : Bool). b && (is_whole (walk_round (kept / 1440) q x).density && (nat_le ((walk_round (kept / 1440) q x).last_date / 86400) (kept / 1440) || (walk_round (kept / 1440) q x).last_index == p))) is
          ∙ sym (ap (λ (b : Bool). b && (are_dense (map (is_there day_ring x) (order day_ring (next day_ring p))) && is_last_good x p (indices x))) is)

  -- how many slots are there
  pub there_same : p < DAY_SLOTS → (walk_round (kept / 1440) q x).there ≡ length (indices x)
  unfolding indices ring_indices
  there_same less =
      let none : 0 + length (filter (is_there day_ring x) around) ≡ length (filter (is_there day_ring x) around) = omega arith in
      ap (λ (w : Walk). w.there) round_is ∙ walk_there (kept / 1440) x walk_start around ∙ none ∙ ap (λ (l : List ℕ). length (filter (is_there day_ring x) l)) (sym (order_is less))

  abbrev There : List ℕ → List ℕ
  There = filter (is_there day_ring x)

  -- the indices before one in each half
  low_before : (i : ℕ) → 0 ≤ i → i < 0 + q → indices_before x i ≡ filter (is_there day_ring x) (back_half ++ range_with_len 0 (i - 0))
  low_before i low high = by (nat_lt p DAY_SLOTS) refl
    where
      by : (b : Bool) → nat_lt p DAY_SLOTS ≡ b → There (cond (nat_le (p + 1) i) (range_with_len (p + 1) (i - (p + 1))) (range_with_len (p + 1) (DAY_SLOTS - (p + 1)) ++ range_with_len 0 i)) ≡ There (back_half ++ range_with_len 0 (i - 0))
      by true is =
          let less : p < DAY_SLOTS = grind (arith, nat_tests, is) in
          let q_is : q ≡ p + 1 = ap (λ (b : Bool). cond b (p + 1) DAY_SLOTS) is in
          let off : nat_le (p + 1) i ≡ false = grind (arith, nat_tests, q_is, high) in
          ap (λ (b : Bool). There (cond b (range_with_len (p + 1) (i - (p + 1))) (range_with_len (p + 1) (DAY_SLOTS - (p + 1)) ++ range_with_len 0 i))) off
          ∙ ap (λ (n : ℕ). There (range_with_len n (DAY_SLOTS - n) ++ range_with_len 0 i)) (sym q_is) ∙ ap (λ (n : ℕ). There (back_half ++ range_with_len 0 n)) (let e : i ≡ i - 0 = omega arith in e)
      by false is =
          let far : DAY_SLOTS ≤ p = grind (arith, nat_tests, is) in
          let q_is : q ≡ DAY_SLOTS = ap (λ (b : Bool). cond b (p + 1) DAY_SLOTS) is in
          let off : nat_le (p + 1) i ≡ false = grind (arith, nat_tests, q_is, high, far) in
          ap (λ (b : Bool). There (cond b (range_with_len (p + 1) (i - (p + 1))) (range_with_len (p + 1) (DAY_SLOTS - (p + 1)) ++ range_with_len 0 i))) off
          ∙ ap (λ (n : ℕ). There (range_with_len (p + 1) n ++ range_with_len 0 i)) (let e : DAY_SLOTS - (p + 1) ≡ 0 = omega (arith, far) in e)
          ∙ ap (λ (n : ℕ). There (range_with_len q n ++ range_with_len 0 i)) (let e : 0 ≡ DAY_SLOTS - q = omega (arith, q_is) in e) ∙ ap (λ (n : ℕ). There (back_half ++ range_with_len 0 n)) (let e : i ≡ i - 0 = omega arith in e)

  high_before : (i : ℕ) → q ≤ i → i < q + (DAY_SLOTS - q) → indices_before x i ≡ filter (is_there day_ring x) ([] ++ range_with_len q (i - q))
  high_before i low high = by (nat_lt p DAY_SLOTS) refl
    where
      by : (b : Bool) → nat_lt p DAY_SLOTS ≡ b → There (cond (nat_le (p + 1) i) (range_with_len (p + 1) (i - (p + 1))) (range_with_len (p + 1) (DAY_SLOTS - (p + 1)) ++ range_with_len 0 i)) ≡ There (range_with_len q (i - q))
      by true is =
          let q_is : q ≡ p + 1 = ap (λ (b : Bool). cond b (p + 1) DAY_SLOTS) is in
          let on : nat_le (p + 1) i ≡ true = grind (arith, nat_tests, q_is, low) in
          ap (λ (b : Bool). There (cond b (range_with_len (p + 1) (i - (p + 1))) (range_with_len (p + 1) (DAY_SLOTS - (p + 1)) ++ range_with_len 0 i))) on
          ∙ ap (λ (n : ℕ). There (range_with_len n (i - n))) (sym q_is)
      by false is = let q_is : q ≡ DAY_SLOTS = ap (λ (b : Bool). cond b (p + 1) DAY_SLOTS) is in absurd (omega (arith, q_is, low, high))

  pub slots_are : or_else (first_failing (slots_by kept x (walk_from (kept / 1440) x walk_start back_half).latest front_half)) (first_failing (slots_by kept x 0 back_half))
      ≡ first_failing (flat_map (slot_checks x) (range_with_len 0 DAY_SLOTS))
  slots_are =
      ap (λ (l : ℕ). or_else (first_failing (slots_by kept x l front_half)) (first_failing (slots_by kept x 0 back_half))) (walk_latest (kept / 1440) x walk_start back_half)
      ∙ ap (λ (l : List Check). or_else (first_failing l) (first_failing (slots_by kept x 0 back_half))) (slots_same x back_half 0 q low_before)
      ∙ ap (λ (l : List Check). or_else (first_failing (flat_map (slot_checks x) front_half)) (first_failing l)) (slots_same x [] q (DAY_SLOTS - q) high_before)
      ∙ sym (ap (λ (l : List ℕ). first_failing (flat_map (slot_checks x) l)) whole_range ∙ ap first_failing (flat_append (slot_checks x) front_half back_half) ∙ failing_append (flat_map (slot_checks x) front_half) (flat_map (slot_checks x) back_half))

  -- the whole
  pub judged_whole : (front cell low high rings : Option ℕ) (walk : Walk) → walk ≡ walk_round (kept / 1440) q x
      → front ≡ first_failing (front_by kept (is_some walk.today) x) → cell ≡ first_failing (cell_checks x)
      → low ≡ first_failing (slots_by kept x (walk_from (kept / 1440) x walk_start back_half).latest front_half) → high ≡ first_failing (slots_by kept x 0 back_half)
      → rings ≡ first_failing (ring_checks x)
      → or_else front (or_else cell (or_else (or_failing None DAYS.place (pointer_passes kept p walk)) (or_else (or_else low high) rings))) ≡ first_bad_place x
  unfolding checks first_bad_place
  judged_whole front cell low high rings walk walk_is front_is cell_is low_is high_is rings_is =
      let F = front_checks x in
      let C = cell_checks x in
      let S = flat_map (slot_checks x) (range_with_len 0 DAY_SLOTS) in
      let R = ring_checks x in
      let P = check DAYS.place (is_pointer_good x) in
      let front' : front ≡ first_failing F = front_is ∙ ap (λ (w : Walk). first_failing (front_by kept (is_some w.today) x)) walk_is ∙ ap first_failing front_same in
      let point : or_failing None DAYS.place (pointer_passes kept p walk) ≡ or_failing None DAYS.place (is_pointer_good x) = ap (λ (w : Walk). or_failing None DAYS.place (pointer_passes kept p w)) walk_is ∙ ap (or_failing None DAYS.place) pointer_same in
      let slots : or_else low high ≡ first_failing S = (λ i. or_else (low_is i) (high_is i)) ∙ slots_are in
      (λ i. or_else (front' i) (or_else (cell_is i) (or_else (point i) (or_else (slots i) (rings_is i)))))
      ∙ sym (failing_append F (C ++ (P ∷ (S ++ R))) ∙ ap (or_else (first_failing F)) (failing_append C (P ∷ (S ++ R)) ∙ ap (or_else (first_failing C)) (one (is_pointer_good x) (first_failing (S ++ R)) ∙ ap (or_else (or_failing None DAYS.place (is_pointer_good x))) (failing_append S R))))
    where
      one : (b : Bool) (o : Option ℕ) → cond b o (Some DAYS.place) ≡ or_else (or_failing None DAYS.place b) o
      one true o = refl
      one false o = refl
