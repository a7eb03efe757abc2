-- What a write inside one entry, or of the pointer, leaves of the other entries.
use Rattle.std.proofs.Common.{◌≡◌, ◌≢◌, ◌⊎◌, inl, inr, ⊎_elim, ℕ, ◌+◌, ◌-◌, ◌<◌, ◌≤◌, Bool, true, false, not, cond, List, length, replicate, refl, ◌∙◌, ap, arith, length-drop}
use Rattle.std.specs.Prelude.{◌==◌}
use Rattle.std.specs.Int.{to_be_bytes, w32}
use Rattle.tach_media.specs.card_layout.Images.{big_number}
use Rattle.tach_media.proofs.card_layout.Spelled.{bytes_filled, number_put}
use Rattle.std.proofs.lemmas.Bool.{cases_lt}
use Rattle.tach_media.specs.Medium.{put, bytes_at, SameOutside, IsPartlyWritten}
use Rattle.tach_media.proofs.Images.{put_outside, part_before, part_after, part_put, outside_wider, outside_then, outside_same}
use Rattle.gated_ring.specs.Ring.{Shape, IsShape, size_of, place_of, gate_of, pointer, is_there, entry_at}
use Rattle.gated_ring.specs.Change.{SameOthers}
use Rattle.gated_ring.specs.Plans.{pointer_bytes}
use Rattle.gated_ring.proofs.Steps.{IsFilling}
use Rattle.gated_ring.proofs.Places.{place_low, place_high, places_apart}

pub others_then : (r : Shape) (i : ℕ) (x y c : List ℕ) → SameOthers r i x y → SameOthers r i y c → SameOthers r i x c
others_then r i x y c first next j below other = let now = next j below other in let was = first j below other in (now.0 ∙ was.0, now.1 ∙ was.1)

pub others_none : (r : Shape) (i : ℕ) (x : List ℕ) → SameOthers r i x x
others_none r i x j below other = (refl, refl)

-- where an image differs in the place of one entry alone
module _ (r : Shape) (shape : IsShape r) (i : ℕ) (below : i < r.count) (x c : List ℕ) (same : SameOutside (place_of r i) r.width x c) where
  part_other : (j o n : ℕ) → j < r.count → j ≢ i → o + n ≤ r.width → bytes_at c (place_of r j + o) n ≡ bytes_at x (place_of r j + o) n
  part_other j o n j_below other fits = ⊎_elim
      (λ less. part_before (place_of r i) r.width (place_of r j + o) n x c same (omega (arith, places_apart r j i less, fits)))
      (λ more. let greater : i < j = omega (arith, more, other) in part_after (place_of r i) r.width (place_of r j + o) n x c same (omega (arith, places_apart r i j greater)))
      (cases_lt j i)

  pub others_same : SameOthers r i x c
  others_same j j_below other = (
    ap (λ (p : ℕ). bytes_at c p r.width) (omega arith) ∙ part_other j 0 r.width j_below other (omega arith) ∙ ap (λ (p : ℕ). bytes_at x p r.width) (omega arith),
    ap (λ (b : List ℕ). not (big_number 4 b == 0)) (part_other j r.gate 4 j_below other (shape.gate)),
  )

  pub pointer_same : pointer r c ≡ pointer r x
  pointer_same = ap (λ (b : List ℕ). big_number r.pointer_width b) (part_before (place_of r i) r.width r.base r.pointer_width x c same (place_low r i))

  pub inside_ring : SameOutside r.base (size_of r) x c
  inside_ring = outside_wider r.base (size_of r) (place_of r i) r.width x c same (omega (arith, place_low r i)) (place_high r i below)

-- no byte outside the place of one entry differs, and no entry is there
pub record IsShut (r : Shape) (i : ℕ) (x c : List ℕ) : Type 0 where
  pub outside : SameOutside (place_of r i) r.width x c
  pub shut : is_there r c i ≡ false

-- the place of an entry is free, and its index may be the pointer
pub record IsFree (r : Shape) (i : ℕ) (x c : List ℕ) : Type 0 where
  pub outside : SameOutside r.base (size_of r) x c
  pub pointer_is : (pointer r c ≡ pointer r x) ⊎ (pointer r c ≡ i)
  pub shut : is_there r c i ≡ false
  pub others : SameOthers r i x c

module _ (r : Shape) (shape : IsShape r) (i : ℕ) (below : i < r.count) (x : List ℕ) (inside : r.base + size_of r ≤ length x) where
  pub gate_inside : gate_of r i + 4 ≤ length x
  gate_inside = omega (arith, place_high r i below, shape.gate, inside)

  zeros_shut : (y : List ℕ) → length y ≡ length x → is_there r (put (gate_of r i) (replicate 4 0) y) i ≡ false
  zeros_shut y same = ap (λ (b : List ℕ). not (big_number 4 b == 0)) (part_put (gate_of r i) (replicate 4 0) y (omega (arith, gate_inside, same)))

  pub gate_outside : (bytes y c : List ℕ) → length bytes ≡ 4 → SameOutside (gate_of r i) (length bytes) y c → SameOutside (place_of r i) r.width y c
  gate_outside bytes y c four same = outside_wider (place_of r i) r.width (gate_of r i) (length bytes) y c same (omega arith) (omega (arith, four, shape.gate))

  pub shut_zeros : IsShut r i x (put (gate_of r i) (replicate 4 0) x)
  shut_zeros =
      let c = put (gate_of r i) (replicate 4 0) x in
      record { outside = gate_outside (replicate 4 0) x c refl (put_outside (gate_of r i) (replicate 4 0) x gate_inside); shut = zeros_shut x refl }

  pub shut_freed : IsShut r i x (cond (is_there r x i) (put (gate_of r i) (replicate 4 0) x) x)
  shut_freed = by (is_there r x i) refl
    where
      by : (b : Bool) → is_there r x i ≡ b → IsShut r i x (cond b (put (gate_of r i) (replicate 4 0) x) x)
      by true is = shut_zeros
      by false is = record { outside = outside_same (place_of r i) r.width x; shut = is }

  pub shut_filling : (y c : List ℕ) → IsShut r i x y → IsFilling r i y c → IsShut r i x c
  shut_filling y c was filling = record {
    outside = outside_then (place_of r i) r.width x y c was.outside filling.outside;
    shut = ap (λ (b : List ℕ). not (big_number 4 b == 0)) filling.gate ∙ was.shut;
  }

  pub free_shut : (c : List ℕ) → IsShut r i x c → IsFree r i x c
  free_shut c is = record {
    outside = inside_ring r shape i below x c is.outside;
    pointer_is = inl (pointer_same r shape i below x c is.outside);
    shut = is.shut;
    others = others_same r shape i below x c is.outside;
  }

  pub pointer_outside : (bytes y c : List ℕ) → length bytes ≤ r.pointer_width → SameOutside r.base (length bytes) y c → ((j o n : ℕ) → bytes_at c (place_of r j + o) n ≡ bytes_at y (place_of r j + o) n)
  pointer_outside bytes y c short same j o n = part_after r.base (length bytes) (place_of r j + o) n y c same (omega (arith, place_low r j, short))

  pointer_others : (bytes y c : List ℕ) → length bytes ≤ r.pointer_width → SameOutside r.base (length bytes) y c → (j : ℕ) → (entry_at r c j ≡ entry_at r y j) × (is_there r c j ≡ is_there r y j)
  pointer_others bytes y c short same j = (
    ap (λ (p : ℕ). bytes_at c p r.width) (omega arith) ∙ pointer_outside bytes y c short same j 0 r.width ∙ ap (λ (p : ℕ). bytes_at y p r.width) (omega arith),
    ap (λ (b : List ℕ). not (big_number 4 b == 0)) (pointer_outside bytes y c short same j r.gate 4),
  )

  pub pointer_length : length (pointer_bytes r i) ≡ r.pointer_width
  pointer_length = omega (arith, length-drop (4 - r.pointer_width) (to_be_bytes w32 i), shape.pointer)

  pub pointer_put : (y : List ℕ) → length y ≡ length x → 0 < r.pointer_width → pointer r (put r.base (pointer_bytes r i) y) ≡ i
  pointer_put y same some =
      ap (λ (b : List ℕ). pointer r (put r.base b y)) (bytes_filled r.pointer_width i shape.pointer)
      ∙ number_put r.base r.pointer_width i y (omega (arith, inside, same)) (omega (arith, shape.holds some, below))

  pub free_pointing : (y c : List ℕ) → 0 < r.pointer_width → IsFree r i x y → IsPartlyWritten r.base (pointer_bytes r i) y c → IsFree r i x c
  free_pointing y c some free part =
      let len = pointer_length in
      let small : length (pointer_bytes r i) ≤ 4 = omega (arith, len, shape.pointer) in
      let kept = pointer_others (pointer_bytes r i) y c (omega (arith, len)) part.outside in
      record {
        outside = outside_then r.base (size_of r) x y c free.outside (outside_wider r.base (size_of r) r.base (length (pointer_bytes r i)) y c part.outside (omega arith) (omega (arith, len)));
        pointer_is = ⊎_elim (λ absent. ⊎_elim (λ was. inl (ap (pointer r) absent ∙ was)) (λ was. inr (ap (pointer r) absent ∙ was)) free.pointer_is)
            (λ whole. inr (ap (pointer r) whole ∙ pointer_put y (free.outside.same_length) some)) (part.whole small);
        shut = (kept i).1 ∙ free.shut;
        others = λ j j_below other. let was = free.others j j_below other in ((kept j).0 ∙ was.0, (kept j).1 ∙ was.1);
      }
