-- The rings of insertions and places inside the image.
use Rattle.std.proofs.Common.{◌≡◌, ◌≢◌, ◌⊎◌, inl, inr, ℕ, ◌+◌, ◌<◌, ◌≤◌, Option, Some, None, IfSome, is_some, List, sym, ◌∙◌, ap, subst, arith}
use Rattle.card_layout.specs.Images.{put, number_at}
use Rattle.card_layout.proofs.Images.{outside_then}
use Rattle.tach_media.specs.Medium.{LiesInside}
use Rattle.tach_media.proofs.Ranges.{lies_part}
use Rattle.tacho_types.specs.declared.numbers.TimeReal.{TimeReal}
use Rattle.tacho_types.specs.declared.numbers.Odometer.{Odometer}
use Rattle.tacho_types.specs.Numbers.{time_bytes, odometer_bytes}
use Rattle.std.specs.Prelude.{◌==◌, if◌then◌else◌, map}
use Rattle.std.proofs.lemmas.Bool.{eqb-false}
use Rattle.activity_codec.proofs.ByTest.{by_test}
use Rattle.gated_ring.specs.Ring.{Shape, PointsInside, size_of, place_of, gate_number, entry_at, indices, ring_list}
use Rattle.gated_ring.specs.Change.{IsSet, OrUnwritten}
use Rattle.gated_ring.proofs.Orders.{map_same, each_weaker}
use Rattle.gated_ring.proofs.Listing.{indices_below}
use Rattle.gated_ring.proofs.Others.{others_then}
use Rattle.message_model.specs.Records.{insertion_ring, unit_place_ring}
use Rattle.unit_notes.proofs.Types.{entry_writable}
use Rattle.unit_notes.specs.Noting.{with_withdrawal, IsWithdrawn, IsWithdrawing}

module _ (r s : Shape) (is : r ≡ s) (inside : s.base + size_of s ≤ 2485808) where
  pub shape_fits : (n : ℕ) → n ≡ 2485808 → r.base + size_of r ≤ n
  shape_fits n sized =
      let here : r.base + size_of r ≤ 2485808 = subst (λ (t : Shape). t.base + size_of t ≤ 2485808) (sym is) inside in
      omega (arith, sized, here)

  pub shape_writable : (ranges : List (ℕ × ℕ)) → LiesInside ranges 0 2485808 → LiesInside ranges r.base (size_of r)
  shape_writable ranges whole = subst (λ (t : Shape). LiesInside ranges t.base (size_of t)) (sym is) (lies_part ranges 0 2485808 s.base (size_of s) (omega arith) (omega (arith, inside)) whole)

  pub shape_index : (i : ℕ) → i < s.count → i < r.count
  shape_index i below = subst (λ (t : Shape). i < t.count) (sym is) below

  pub shape_width : (n : ℕ) → n ≤ s.width → n ≤ r.width
  shape_width n few = subst (λ (t : Shape). n ≤ t.width) (sym is) few

  pub shape_part_writable : (ranges : List (ℕ × ℕ)) (i o n : ℕ) → i < s.count → o + n ≤ s.width → LiesInside ranges 0 2485808 → LiesInside ranges (place_of r i + o) n
  shape_part_writable ranges i o n below few whole =
      subst (λ (t : Shape). LiesInside ranges (place_of t i + o) n) (sym is)
      (entry_writable ranges s i o n below few (lies_part ranges 0 2485808 s.base (size_of s) (omega arith) (omega (arith, inside)) whole))

  pub shape_behind_gate : (o n : ℕ) → s.gate + 4 ≤ o → (o + n ≤ r.gate) ⊎ (r.gate + 4 ≤ o)
  shape_behind_gate o n behind = subst (λ (t : Shape). (o + n ≤ t.gate) ⊎ (t.gate + 4 ≤ o)) (sym is) (inr behind)

pub insertions_inside : insertion_ring.base + size_of insertion_ring ≤ 2485808
insertions_inside = omega arith

pub places_inside : unit_place_ring.base + size_of unit_place_ring ≤ 2485808
places_inside = omega arith

-- an entry whose gate's number is a time that is not 0 is there
pub number_opens : (r s : Shape) (head : List ℕ) (time : ℕ) → r ≡ s → number_at head s.gate 4 ≡ time → time ≢ 0 → gate_number r head ≢ 0
number_opens r s head time is stands some = subst (λ (t : Shape). gate_number t head ≢ 0) (sym is) (λ zero. some (sym stands ∙ zero))

-- ---- a withdrawal: two parts of an entry are set, one after the other

module _ (i : ℕ) (time : TimeReal) (odometer : Odometer) (x y c : List ℕ) (below : i < 2048) where
  pub withdrawn : IsSet insertion_ring i 102 (time_bytes time) x y → IsSet insertion_ring i 106 (odometer_bytes odometer) y c → IsWithdrawn i time odometer x c
  withdrawn first next = record {
    outside = outside_then (place_of insertion_ring i) 129 x y c first.outside next.outside;
    others = others_then insertion_ring i x y c first.others next.others;
    there = next.there ∙ first.there;
    entry = next.entry ∙ ap (put 106 (odometer_bytes odometer)) first.entry;
    pointer_is = next.pointer_is ∙ first.pointer_is;
    indices_are = λ known. next.indices_are (points known) ∙ first.indices_are known;
    list_is = λ known. withdrawn_list known;
  }
    where
      points : PointsInside insertion_ring x → PointsInside insertion_ring y
      points known = subst (λ (n : ℕ). n < 2048) (sym first.pointer_is) known

      at : (j : ℕ) → j < 2048 → (if j == i then put 106 (odometer_bytes odometer) (entry_at insertion_ring y i) else entry_at insertion_ring y j)
          ≡ (if j == i then with_withdrawal time odometer (entry_at insertion_ring x i) else entry_at insertion_ring x j)
      at j low = by_test (j == i) (λ yes. rw yes (ap (put 106 (odometer_bytes odometer)) first.entry)) (λ no. rw no (first.others j low (eqb-false j i no)).0)

      withdrawn_list : PointsInside insertion_ring x → ring_list insertion_ring c ≡ map (λ j. if j == i then with_withdrawal time odometer (entry_at insertion_ring x i) else entry_at insertion_ring x j) (indices insertion_ring x)
      withdrawn_list known =
          let was : ℕ → List ℕ = λ j. if j == i then with_withdrawal time odometer (entry_at insertion_ring x i) else entry_at insertion_ring x j in
          let is : ℕ → List ℕ = λ j. if j == i then put 106 (odometer_bytes odometer) (entry_at insertion_ring y i) else entry_at insertion_ring y j in
          next.list_is (points known) ∙ ap (map is) (first.indices_are known)
          ∙ map_same was is (indices insertion_ring x) (each_weaker (λ j. j < 2048) (λ j. is j ≡ was j) (indices insertion_ring x) at (indices_below insertion_ring x known))

-- a moment of it, in its first part and in its second
module _ (i : ℕ) (time : TimeReal) (odometer : Odometer) (below : i < 2048) where
  pub withdrawing_first : (x c : List ℕ) → OrUnwritten (IsSet insertion_ring i 102 (time_bytes time)) x c → IsWithdrawing i time odometer x c
  withdrawing_first x c (inl same) = inl same
  withdrawing_first x c (inr set) = inr (inl set)

  pub withdrawing_next : (x y c : List ℕ) → IsSet insertion_ring i 102 (time_bytes time) x y → OrUnwritten (IsSet insertion_ring i 106 (odometer_bytes odometer)) y c → IsWithdrawing i time odometer x c
  withdrawing_next x y c first (inl same) = subst (λ (l : List ℕ). IsWithdrawing i time odometer x l) (sym same) (inr (inl first))
  withdrawing_next x y c first (inr set) = inr (inr (withdrawn i time odometer x y c below first set))

  pub withdrawn_told : (o m n : Option (List ℕ)) → is_some m ≡ is_some o → IfSome o (λ x. IfSome m (IsSet insertion_ring i 102 (time_bytes time) x))
      → IfSome m (λ y. IfSome n (IsSet insertion_ring i 106 (odometer_bytes odometer) y)) → IfSome o (λ x. IfSome n (IsWithdrawn i time odometer x))
  withdrawn_told None m n same first next = tt
  withdrawn_told (Some x) None n same first next = absurd (cc)
  withdrawn_told (Some x) (Some y) None same first next = tt
  withdrawn_told (Some x) (Some y) (Some z) same first next = withdrawn i time odometer x y z below first next
