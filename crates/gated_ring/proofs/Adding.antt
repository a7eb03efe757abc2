-- The moments of an `add`, and what it leaves.
use Rattle.std.proofs.Common.{◌≡◌, ◌≢◌, ◌⊎◌, inl, inr, ⊎_elim, ℕ, ◌+◌, ◌-◌, ◌<◌, ◌≤◌, Bool, true, false, cond, List, length, replicate, refl, sym, ◌∙◌, ap, subst, arith, lit≤}
use Rattle.std.specs.Prelude.{◌==◌}
use Rattle.std.proofs.lemmas.Bool.Decides.{nat_tests}
use Rattle.tach_media.specs.Medium.{put, bytes_at, SameOutside}
use Rattle.tach_media.proofs.Images.{put_outside, outside_wider, outside_then}
use Rattle.gated_ring.specs.Ring.{Shape, IsShape, size_of, place_of, gate_of, pointer, PointsInside, is_there, entry_at, next, taken, gate_bytes, gate_number, with_head, IsDense}
use Rattle.gated_ring.specs.Change.{SameOthers, IsExtended, IsAddStep, IsAdding, IsAdded}
use Rattle.gated_ring.specs.Plans.{pointer_bytes}
use Rattle.gated_ring.proofs.Steps.{freed, with_body, pointed, placed, IsPlacing}
use Rattle.gated_ring.proofs.Others.{IsShut, IsFree, others_none, others_then, others_same, pointer_same, inside_ring, shut_zeros, shut_filling, free_shut, free_pointing, pointer_length, pointer_put, pointer_outside, gate_outside}
use Rattle.gated_ring.proofs.Listing.{taken_below, shortened_indices, shortened_list, extended_indices, extended_list}
use Rattle.gated_ring.proofs.Dense.{dense_shortened, dense_extended, newest_shortened, newest_extended}
use Rattle.gated_ring.proofs.Writing.{full, shut_0, shut_1, gate_length, opened_same, opened_there, opened_entry}

module _ (r : Shape) (shape : IsShape r) (x : List ℕ) (inside : r.base + size_of r ≤ length x) (i : ℕ) (below : i < r.count)
    (head : List ℕ) (gate_fits : r.gate + 4 ≤ length head) (width_fits : length head ≤ r.width) (p : ℕ) where
  abbrev y1 : List ℕ
  y1 = with_body r i head (freed r i x)

  abbrev y2 : List ℕ
  y2 = pointed r p i y1

  is_shut : IsShut r i x y1
  is_shut = shut_1 r shape x inside i below head gate_fits width_fits

  pointer_inside : r.base + length (pointer_bytes r i) ≤ length y1
  pointer_inside = omega (arith, pointer_length r shape i below x inside, is_shut.outside.same_length, inside)

  -- no byte behind the pointer differs where it is moved
  pointed_part : (q n : ℕ) → place_of r i ≤ q → bytes_at y2 q n ≡ bytes_at y1 q n
  pointed_part q n low =
      let o = q - place_of r i in
      let at : place_of r i + o ≡ q = omega (arith, low) in
      ap (λ (m : ℕ). bytes_at y2 m n) (sym at) ∙ by o (p == i) ∙ ap (λ (m : ℕ). bytes_at y1 m n) at
    where
      by : (o : ℕ) (b : Bool) → bytes_at (cond b y1 (put r.base (pointer_bytes r i) y1)) (place_of r i + o) n ≡ bytes_at y1 (place_of r i + o) n
      by o true = refl
      by o false = pointer_outside r shape i below x inside (pointer_bytes r i) y1 (put r.base (pointer_bytes r i) y1) (omega (arith, pointer_length r shape i below x inside)) (put_outside r.base (pointer_bytes r i) y1 pointer_inside) i o n

  pointed_outside : SameOutside r.base (size_of r) x y2
  pointed_outside = by (p == i)
    where
      by : (b : Bool) → SameOutside r.base (size_of r) x (cond b y1 (put r.base (pointer_bytes r i) y1))
      by true = inside_ring r shape i below x y1 is_shut.outside
      by false = outside_then r.base (size_of r) x y1 (put r.base (pointer_bytes r i) y1) (inside_ring r shape i below x y1 is_shut.outside)
          (outside_wider r.base (size_of r) r.base (length (pointer_bytes r i)) y1 (put r.base (pointer_bytes r i) y1) (put_outside r.base (pointer_bytes r i) y1 pointer_inside) (omega arith) (omega (arith, pointer_length r shape i below x inside)))

  opened_outside : (c : List ℕ) → SameOutside (place_of r i) r.width y2 c → SameOutside r.base (size_of r) x c
  opened_outside c same = outside_then r.base (size_of r) x y2 c pointed_outside (inside_ring r shape i below y2 c same)

  z_same : SameOutside (place_of r i) r.width y2 (placed r p i head x)
  z_same = opened_same r shape x inside i below head gate_fits width_fits y2 pointed_outside.same_length pointed_part

  -- the bytes of no other place than the ring's differ, whatever the pointer is
  placed_outside : SameOutside r.base (size_of r) x (placed r p i head x)
  placed_outside = opened_outside (placed r p i head x) z_same

  placing_outside : (c : List ℕ) → IsPlacing r p i head x c → SameOutside r.base (size_of r) x c
  placing_outside c (inl shutting) = inside_ring r shape i below x c (gate_outside r shape i below x inside (replicate 4 0) x c refl shutting.outside)
  placing_outside c (inr (inl filling)) = inside_ring r shape i below x c (shut_filling r shape i below x inside (freed r i x) c (shut_0 r shape x inside i below head gate_fits width_fits) filling).outside
  placing_outside c (inr (inr (inl pointing))) = outside_then r.base (size_of r) x y1 c (inside_ring r shape i below x y1 is_shut.outside)
      (outside_wider r.base (size_of r) r.base (length (pointer_bytes r i)) y1 c pointing.outside (omega arith) (omega (arith, pointer_length r shape i below x inside)))
  placing_outside c (inr (inr (inr opening))) = opened_outside c (gate_outside r shape i below x inside (gate_bytes r head) y2 c (gate_length r shape x inside i below head gate_fits width_fits) opening.outside)

  -- where the pointer is the one of the image
  module _ (some : 0 < r.pointer_width) (is_pointer : pointer r x ≡ p) (gate_open : gate_number r head ≢ 0) where
    free_2 : IsFree r i x y2 × (pointer r y2 ≡ i)
    free_2 = by (p == i) refl
      where
        free_1 : IsFree r i x y1
        free_1 = free_shut r shape i below x inside y1 is_shut

        by : (b : Bool) → (p == i) ≡ b → IsFree r i x (cond b y1 (put r.base (pointer_bytes r i) y1)) × (pointer r (cond b y1 (put r.base (pointer_bytes r i) y1)) ≡ i)
        by true is =
            let same : p ≡ i = grind (arith, nat_tests, is) in
            (free_1, ⊎_elim (λ was. was ∙ is_pointer ∙ same) (λ moved. moved) free_1.pointer_is)
        by false is = (
          free_pointing r shape i below x inside y1 (put r.base (pointer_bytes r i) y1) some free_1 (full r.base (pointer_bytes r i) y1 pointer_inside),
          pointer_put r shape i below x inside y1 (is_shut.outside.same_length) some,
        )

    -- an image whose place is free, or the last
    abbrev Last : List ℕ → Type 0
    Last c = (is_there r c i ≡ true) × (entry_at r c i ≡ with_head r x i head) × (pointer r c ≡ i) × SameOthers r i x c

    placed_last : Last (placed r p i head x)
    placed_last = (
      opened_there r shape x inside i below head gate_fits width_fits y2 pointed_outside.same_length pointed_part gate_open,
      opened_entry r shape x inside i below head gate_fits width_fits y2 pointed_outside.same_length pointed_part,
      pointer_same r shape i below y2 (placed r p i head x) z_same ∙ free_2.1,
      others_then r i x y2 (placed r p i head x) free_2.0.others (others_same r shape i below y2 (placed r p i head x) z_same),
    )

    moments : (c : List ℕ) → IsPlacing r p i head x c → (c ≡ x) ⊎ (IsFree r i x c ⊎ Last c)
    moments c (inl shutting) = ⊎_elim
        (λ absent. inl absent)
        (λ whole. inr (inl (subst (IsFree r i x) (sym whole) (free_shut r shape i below x inside (put (gate_of r i) (replicate 4 0) x) (shut_zeros r shape i below x inside)))))
        (shutting.whole (lit≤ tt))
    moments c (inr (inl filling)) = inr (inl (free_shut r shape i below x inside c (shut_filling r shape i below x inside (freed r i x) c (shut_0 r shape x inside i below head gate_fits width_fits) filling)))
    moments c (inr (inr (inl pointing))) = inr (inl (free_pointing r shape i below x inside y1 c some (free_shut r shape i below x inside y1 is_shut) pointing))
    moments c (inr (inr (inr opening))) = ⊎_elim
        (λ absent. inr (inl (subst (IsFree r i x) (sym absent) free_2.0)))
        (λ whole. inr (inr (subst Last (sym whole) placed_last)))
        (opening.whole (omega (arith, gate_length r shape x inside i below head gate_fits width_fits)))

-- the new entry stands at the index that is taken, and at the pointer
abbrev Ends : Shape → List ℕ → List ℕ → List ℕ → Type 0
Ends r x head c = (is_there r c (taken r x) ≡ true) × (entry_at r c (taken r x) ≡ with_head r x (taken r x) head) × (pointer r c ≡ taken r x) × SameOthers r (taken r x) x c

-- of the pointer and the index that are there
module _ (r : Shape) (x head : List ℕ) (known : PointsInside r x) where
  extended : (c : List ℕ) → is_there r c (taken r x) ≡ true → entry_at r c (taken r x) ≡ with_head r x (taken r x) head → pointer r c ≡ taken r x → SameOthers r (taken r x) x c → IsExtended r head x c
  extended c there entry moved others =
      let are = extended_indices r x known c others moved there in
      let list = extended_list r x known c others head are entry in
      record {
        there = there;
        entry = entry;
        pointer_is = moved;
        next_is = ap (λ (b : Bool). cond b (next r (pointer r c)) (pointer r c)) (ap (is_there r c) moved ∙ there) ∙ ap (next r) moved;
        indices_are = are;
        list_is = list;
        newest = λ dense. list ∙ newest_extended r x known (entry_at r x) dense (with_head r x (taken r x) head);
      }

  a_step : (c : List ℕ) → (c ≡ x) ⊎ (IsFree r (taken r x) x c ⊎ Ends r x head c) → IsAddStep r head x c
  a_step c (inl same) = record {
    others = subst (SameOthers r (taken r x) x) (sym same) (others_none r (taken r x) x);
    pointer_is = inl (ap (pointer r) same);
    points = subst (PointsInside r) (sym same) known;
    list = inl same;
    dense = λ dense. subst (IsDense r) (sym same) dense;
  }
  a_step c (inr (inl free)) =
      let are = shortened_indices r x known c free.others free.pointer_is free.shut in
      let list = shortened_list r x known c free.others are in
      record {
        others = free.others;
        pointer_is = free.pointer_is;
        points = ⊎_elim (λ was. subst (λ (n : ℕ). n < r.count) (sym was) known) (λ moved. subst (λ (n : ℕ). n < r.count) (sym moved) (taken_below r x known)) free.pointer_is;
        list = inr (inl (record { shut = free.shut; indices_are = are; list_is = list; newest = λ dense. list ∙ newest_shortened r x known (entry_at r x) dense }));
        dense = λ dense. dense_shortened r x known dense c free.pointer_is are;
      }
  a_step c (inr (inr last)) =
      let long = extended c last.0 last.1 last.2 last.3 in
      record { others = last.3; pointer_is = inr last.2; points = subst (λ (n : ℕ). n < r.count) (sym last.2) (taken_below r x known); list = inr (inr long); dense = λ dense. dense_extended r x known dense c last.2 long.indices_are }

module _ (r : Shape) (shape : IsShape r) (some : 0 < r.pointer_width) (x : List ℕ) (inside : r.base + size_of r ≤ length x)
    (last i : ℕ) (below : i < r.count) (is_last : PointsInside r x → last ≡ pointer r x) (is_taken : PointsInside r x → i ≡ taken r x)
    (head : List ℕ) (gate_fits : r.gate + 4 ≤ length head) (width_fits : length head ≤ r.width) (gate_open : gate_number r head ≢ 0) where
  -- a moment of the writes is one of the `add`
  pub adding : (c : List ℕ) → IsPlacing r last i head x c → IsAdding r head x c
  adding c placing = record {
    outside = placing_outside r shape x inside i below head gate_fits width_fits last c placing;
    step = λ known. a_step r x head known c (moments r shape x inside (taken r x) (taken_below r x known) head gate_fits width_fits (pointer r x) some refl gate_open c
        (subst (λ (p : ℕ). IsPlacing r p (taken r x) head x c) (is_last known) (subst (λ (j : ℕ). IsPlacing r last j head x c) (is_taken known) placing)));
  }

  -- and what they leave in the end is what it leaves
  pub added : (y : List ℕ) → y ≡ placed r last i head x → IsAdded r head x y
  added y is = record {
    outside = subst (λ (l : List ℕ). SameOutside r.base (size_of r) x l) (sym is) (placed_outside r shape x inside i below head gate_fits width_fits last);
    others = λ known. (step known).others;
    points = λ known. (step known).points;
    list = long;
    dense = λ known. (step known).dense;
  }
    where
      is_placed : PointsInside r x → y ≡ placed r (pointer r x) (taken r x) head x
      is_placed known = is ∙ ap (λ (p : ℕ). placed r p i head x) (is_last known) ∙ ap (λ (j : ℕ). placed r (pointer r x) j head x) (is_taken known)

      ends : PointsInside r x → Ends r x head y
      ends known = subst (Ends r x head) (sym (is_placed known)) (placed_last r shape x inside (taken r x) (taken_below r x known) head gate_fits width_fits (pointer r x) some refl gate_open)

      step : PointsInside r x → IsAddStep r head x y
      step known = a_step r x head known y (inr (inr (ends known)))

      long : PointsInside r x → IsExtended r head x y
      long known = let end = ends known in extended r x head known y end.0 end.1 end.2 end.3
