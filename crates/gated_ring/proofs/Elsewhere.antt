-- A write outside a ring's range changes nothing of the ring.
use Rattle.std.proofs.Common.{◌≡◌, ◌⊎◌, inl, inr, ⊎_elim, ℕ, ◌+◌, ◌-◌, ◌<◌, ◌≤◌, Bool, cond, not, List, filter, map, Option, Some, None, sym, ◌∙◌, ap, subst, arith}
use Rattle.std.specs.Prelude.{◌==◌}
use Rattle.tach_media.specs.card_layout.Images.{big_number}
use Rattle.tach_media.specs.Medium.{bytes_at, SameOutside}
use Rattle.tach_media.proofs.Images.{part_before, part_after, part_in}
use Rattle.gated_ring.specs.Ring.{Shape, IsShape, size_of, place_of, gate_of, pointer, PointsInside, is_there, entry_at, next, order, indices, ring_list, IsNewest, taken, IsDense}
use Rattle.gated_ring.proofs.Orders.{each_weaker, order_each, next_below, filter_same, map_same}
use Rattle.gated_ring.proofs.Listing.{indices_below}
use Rattle.gated_ring.proofs.Places.{place_high}

-- a write before the ring or behind it
pub ring_outside : (r : Shape) (place len : ℕ) (x c : List ℕ) → (place + len ≤ r.base) ⊎ (r.base + size_of r ≤ place) → SameOutside place len x c → bytes_at c r.base (size_of r) ≡ bytes_at x r.base (size_of r)
ring_outside r place len x c (inl low) same = part_after place len r.base (size_of r) x c same low
ring_outside r place len x c (inr high) same = part_before place len r.base (size_of r) x c same high

module _ (r : Shape) (shape : IsShape r) (x c : List ℕ) (same : bytes_at c r.base (size_of r) ≡ bytes_at x r.base (size_of r)) where
  part_same : (k n : ℕ) → k + n ≤ size_of r → bytes_at c (r.base + k) n ≡ bytes_at x (r.base + k) n
  part_same k n fits = sym (part_in c r.base (size_of r) k n fits) ∙ ap (λ (l : List ℕ). bytes_at l k n) same ∙ part_in x r.base (size_of r) k n fits

  -- what lies at a place of the ring
  at_same : (p n : ℕ) → r.base ≤ p → p + n ≤ r.base + size_of r → bytes_at c p n ≡ bytes_at x p n
  at_same p n low high =
      let k = p - r.base in
      let is : r.base + k ≡ p = omega (arith, low) in
      ap (λ (q : ℕ). bytes_at c q n) (sym is) ∙ part_same k n (omega (arith, low, high)) ∙ ap (λ (q : ℕ). bytes_at x q n) is

  pub pointer_elsewhere : pointer r c ≡ pointer r x
  pointer_elsewhere = ap (big_number r.pointer_width) (at_same r.base r.pointer_width (omega arith) (omega arith))

  pub points_elsewhere : PointsInside r x → PointsInside r c
  points_elsewhere known = subst (λ (n : ℕ). n < r.count) (sym pointer_elsewhere) known

  pub entry_elsewhere : (i : ℕ) → i < r.count → entry_at r c i ≡ entry_at r x i
  entry_elsewhere i below = at_same (place_of r i) r.width (omega arith) (place_high r i below)

  pub there_elsewhere : (i : ℕ) → i < r.count → is_there r c i ≡ is_there r x i
  there_elsewhere i below = ap (λ (b : List ℕ). not (big_number 4 b == 0)) (at_same (gate_of r i) 4 (omega arith) (omega (arith, place_high r i below, shape.gate)))

  -- where the pointer is an index
  module _ (known : PointsInside r x) where
    pub indices_elsewhere : indices r c ≡ indices r x
    unfolding indices
    indices_elsewhere =
        ap (λ (p : ℕ). filter (is_there r c) (order r (next r p))) pointer_elsewhere
        ∙ filter_same (is_there r x) (is_there r c) (order r (next r (pointer r x)))
        (each_weaker (λ j. j < r.count) (λ j. is_there r c j ≡ is_there r x j) (order r (next r (pointer r x))) there_elsewhere (order_each r (next r (pointer r x)) (next_below r (pointer r x) known)))

    pub list_elsewhere : ring_list r c ≡ ring_list r x
    list_elsewhere = ap (map (entry_at r c)) indices_elsewhere
        ∙ map_same (entry_at r x) (entry_at r c) (indices r x) (each_weaker (λ j. j < r.count) (λ j. entry_at r c j ≡ entry_at r x j) (indices r x) entry_elsewhere (indices_below r x known))

    pub taken_elsewhere : taken r c ≡ taken r x
    taken_elsewhere =
        ap (λ (p : ℕ). cond (is_there r c p) (next r p) p) pointer_elsewhere
        ∙ ap (λ (b : Bool). cond b (next r (pointer r x)) (pointer r x)) (there_elsewhere (pointer r x) known)

    pub newest_elsewhere : (o : Option ℕ) → IsNewest r x o → IsNewest r c o
    newest_elsewhere None none = indices_elsewhere ∙ none
    newest_elsewhere (Some i) last = record { below = last.below; there = there_elsewhere i last.below ∙ last.there; older = last.older; indices_are = indices_elsewhere ∙ last.indices_are }

    pub dense_elsewhere : IsDense r x → IsDense r c
    dense_elsewhere (inl none) = inl (indices_elsewhere ∙ none)
    dense_elsewhere (inr (last, run)) =
        inr (
          last,
          record {
            below = run.below;
            at_pointer = ⊎_elim (λ at. inl (at ∙ sym pointer_elsewhere)) (λ before. inr (before ∙ sym pointer_elsewhere)) run.at_pointer;
            len = run.len;
            few = run.few;
            indices_are = indices_elsewhere ∙ run.indices_are;
          },
        )

    -- all that is said of the ring
    pub ring_elsewhere : (pointer r c ≡ pointer r x) × (indices r c ≡ indices r x) × (ring_list r c ≡ ring_list r x) × (IsDense r x → IsDense r c)
    ring_elsewhere = (pointer_elsewhere, indices_elsewhere, list_elsewhere, dense_elsewhere)
