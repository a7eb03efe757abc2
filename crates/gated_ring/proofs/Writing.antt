-- The writes of one entry: its gate is shut, the bytes beside the gate, and the gate is opened.
use Rattle.std.proofs.Common.{◌≡◌, ◌≢◌, inr, ℕ, ◌+◌, ◌-◌, ◌<◌, ◌≤◌, Bool, true, false, not, cond, List, ◌++◌, length, take, drop, replicate, refl, sym, ◌∙◌, ap, subst, arith, length-drop, take-append-drop}
use Rattle.std.specs.Prelude.{◌==◌}
use Rattle.tach_media.specs.card_layout.Images.{big_number}
use Rattle.std.proofs.lemmas.Bool.Decides.{nat_tests}
use Rattle.std.proofs.lemmas.List.{length-take-le, drop-take, drop-drop}
use Rattle.tach_media.specs.Medium.{put, bytes_at, SameOutside, IsPartlyWritten}
use Rattle.tach_media.proofs.Images.{put_outside, part_before, part_after, part_put, part_split, outside_same}
use Rattle.gated_ring.specs.Ring.{Shape, IsShape, size_of, place_of, gate_of, is_there, entry_at, gate_bytes, gate_number, with_head}
use Rattle.gated_ring.proofs.Steps.{freed, with_body, opened, IsFilling}
use Rattle.gated_ring.proofs.Places.{place_high}
use Rattle.gated_ring.proofs.Filling.{filling_back}
use Rattle.gated_ring.proofs.Others.{IsShut, shut_freed, shut_filling, gate_outside}

-- a whole write is one that may be left
pub full : (place : ℕ) (bytes image : List ℕ) → place + length bytes ≤ length image → IsPartlyWritten place bytes image (put place bytes image)
full place bytes image le = record { outside = put_outside place bytes image le; whole = λ short. inr refl }

-- an open gate that was written
put_open : (place : ℕ) (bytes image : List ℕ) → length bytes ≡ 4 → place + length bytes ≤ length image → big_number 4 bytes ≢ 0 → not (big_number 4 (bytes_at (put place bytes image) place 4) == 0) ≡ true
put_open place bytes image four le opened =
    let stands : bytes_at (put place bytes image) place 4 ≡ bytes = ap (λ (n : ℕ). bytes_at (put place bytes image) place n) (sym four) ∙ part_put place bytes image le in
    ap (λ (b : List ℕ). not (big_number 4 b == 0)) stands ∙ differs (big_number 4 bytes) opened
  where
    differs : (n : ℕ) → n ≢ 0 → not (n == 0) ≡ true
    differs n other = grind (arith, nat_tests)

-- an entry by its four parts: before the gate, the gate, behind it up to the end of what is given, and the rest
assembled : (z x head : List ℕ) (a gate width : ℕ) → gate + 4 ≤ length head → length head ≤ width
    → bytes_at z a gate ≡ take gate head → bytes_at z (a + gate) 4 ≡ bytes_at head gate 4 → bytes_at z (a + gate + 4) (length head - (gate + 4)) ≡ drop (gate + 4) head
    → bytes_at z (a + length head) (width - length head) ≡ bytes_at x (a + length head) (width - length head)
    → bytes_at z a width ≡ head ++ drop (length head) (bytes_at x a width)
assembled z x head a gate width gate_fits width_fits front at_gate behind end =
    let m = length head - (gate + 4) in
    let k = width - length head in
    let whole : gate + (4 + m) ≡ length head = omega (arith, gate_fits) in
    let all : length head + k ≡ width = omega (arith, width_fits) in
    let given : bytes_at z a (length head) ≡ head =
    ap (λ (n : ℕ). bytes_at z a n) (sym whole) ∙ part_split z a gate (4 + m)
    ∙ ap (λ (l : List ℕ). bytes_at z a gate ++ l) (part_split z (a + gate) 4 m)
    ∙ ap (λ (l : List ℕ). l ++ (bytes_at z (a + gate) 4 ++ bytes_at z (a + gate + 4) m)) front
    ∙ ap (λ (l : List ℕ). take gate head ++ (l ++ bytes_at z (a + gate + 4) m)) at_gate
    ∙ ap (λ (l : List ℕ). take gate head ++ (bytes_at head gate 4 ++ l)) behind
    ∙ ap (λ (l : List ℕ). take gate head ++ (bytes_at head gate 4 ++ l)) (sym (drop-drop 4 gate head))
    ∙ ap (λ (l : List ℕ). take gate head ++ l) (take-append-drop 4 (drop gate head)) ∙ take-append-drop gate head in
    let kept : drop (length head) (bytes_at x a width) ≡ bytes_at x (a + length head) k =
    ap (λ (n : ℕ). drop (length head) (bytes_at x a n)) (sym all) ∙ drop-take (length head) k (drop a x) ∙ ap (λ (l : List ℕ). take k l) (drop-drop (length head) a x) in
    ap (λ (n : ℕ). bytes_at z a n) (sym all) ∙ part_split z a (length head) k
    ∙ ap (λ (l : List ℕ). l ++ bytes_at z (a + length head) k) given ∙ ap (λ (l : List ℕ). head ++ l) (end ∙ sym kept)

module _ (r : Shape) (shape : IsShape r) (x : List ℕ) (inside : r.base + size_of r ≤ length x) (i : ℕ) (below : i < r.count)
    (head : List ℕ) (gate_fits : r.gate + 4 ≤ length head) (width_fits : length head ≤ r.width) where
  abbrev y0 : List ℕ
  y0 = freed r i x

  abbrev y1 : List ℕ
  y1 = with_body r i head y0

  abbrev front_put : List ℕ
  front_put = put (place_of r i) (take r.gate head) y0

  pub shut_0 : IsShut r i x y0
  shut_0 = shut_freed r shape i below x inside

  front_length : length (take r.gate head) ≡ r.gate
  front_length = length-take-le r.gate head (omega (arith, gate_fits))

  back_length : length (drop (r.gate + 4) head) + r.gate + 4 ≡ length head
  back_length = omega (arith, length-drop (r.gate + 4) head, gate_fits)

  entry_inside : place_of r i + r.width ≤ length x
  entry_inside = omega (arith, place_high r i below, inside)

  front_inside : place_of r i + length (take r.gate head) ≤ length y0
  front_inside = omega (arith, front_length, entry_inside, shut_0.outside.same_length, shape.gate)

  front_same : SameOutside (place_of r i) (length (take r.gate head)) y0 front_put
  front_same = put_outside (place_of r i) (take r.gate head) y0 front_inside

  back_inside : gate_of r i + 4 + length (drop (r.gate + 4) head) ≤ length front_put
  back_inside = omega (arith, front_same.same_length, entry_inside, shut_0.outside.same_length, back_length, width_fits)

  filling : IsFilling r i y0 y1
  filling = filling_back r i (place_of r i) (take r.gate head) y0 refl (omega (arith, front_length)) shape.gate (gate_of r i + 4) (drop (r.gate + 4) head) y1 refl
      (omega (arith, back_length, width_fits)) (omega (arith, entry_inside, shut_0.outside.same_length)) (full (gate_of r i + 4) (drop (r.gate + 4) head) front_put back_inside)

  pub shut_1 : IsShut r i x y1
  shut_1 = shut_filling r shape i below x inside y0 y1 shut_0 filling

  pub gate_length : length (gate_bytes r head) ≡ 4
  gate_length = length-take-le 4 (drop r.gate head) (omega (arith, length-drop r.gate head, gate_fits))

  freed_same : SameOutside (gate_of r i) 4 x y0
  freed_same = by (is_there r x i)
    where
      by : (b : Bool) → SameOutside (gate_of r i) 4 x (cond b (put (gate_of r i) (replicate 4 0) x) x)
      by true = put_outside (gate_of r i) (replicate 4 0) x (omega (arith, entry_inside, shape.gate))
      by false = outside_same (gate_of r i) 4 x

  -- the gate is opened in an image whose entry is so written
  module _ (y2 : List ℕ) (same_length : length y2 ≡ length x) (same_part : (q n : ℕ) → place_of r i ≤ q → bytes_at y2 q n ≡ bytes_at y1 q n) where
    abbrev z : List ℕ
    z = opened r i head y2

    gate_inside : gate_of r i + length (gate_bytes r head) ≤ length y2
    gate_inside = omega (arith, gate_length, entry_inside, same_length, shape.gate)

    pub opened_same : SameOutside (place_of r i) r.width y2 z
    opened_same = gate_outside r shape i below x inside (gate_bytes r head) y2 z gate_length (put_outside (gate_of r i) (gate_bytes r head) y2 gate_inside)

    pub opened_there : gate_number r head ≢ 0 → is_there r z i ≡ true
    opened_there gate_open = put_open (gate_of r i) (gate_bytes r head) y2 gate_length gate_inside gate_open

    -- the entry begins as it was given, and ends as it stood there
    pub opened_entry : entry_at r z i ≡ with_head r x i head
    opened_entry =
        let a = place_of r i in
        let g = gate_of r i in
        let back = drop (r.gate + 4) head in
        let hl = length head in
        let k = r.width - hl in
        let z_from : SameOutside g 4 y2 z = subst (λ (n : ℕ). SameOutside g n y2 z) gate_length (put_outside g (gate_bytes r head) y2 gate_inside) in
        let back_same = put_outside (g + 4) back front_put back_inside in
        let m_is : length back ≡ hl - (r.gate + 4) = omega (arith, back_length) in
        assembled z x head a r.gate r.width gate_fits width_fits
        (part_before g 4 a r.gate y2 z z_from (omega arith) ∙ same_part a r.gate (omega arith) ∙ part_before (g + 4) (length back) a r.gate front_put y1 back_same (omega arith)
        ∙ ap (λ (n : ℕ). bytes_at front_put a n) (sym front_length) ∙ part_put a (take r.gate head) y0 front_inside)
        (ap (λ (n : ℕ). bytes_at z g n) (sym gate_length) ∙ part_put g (gate_bytes r head) y2 gate_inside)
        (part_after g 4 (g + 4) (hl - (r.gate + 4)) y2 z z_from (omega arith) ∙ same_part (g + 4) (hl - (r.gate + 4)) (omega arith)
        ∙ ap (λ (n : ℕ). bytes_at y1 (g + 4) n) (sym m_is) ∙ part_put (g + 4) back front_put back_inside)
        (part_after g 4 (a + hl) k y2 z z_from (omega (arith, gate_fits)) ∙ same_part (a + hl) k (omega arith) ∙ part_after (g + 4) (length back) (a + hl) k front_put y1 back_same (omega (arith, back_length))
        ∙ part_after a (length (take r.gate head)) (a + hl) k y0 front_put front_same (omega (arith, front_length, gate_fits)) ∙ part_after g 4 (a + hl) k x y0 freed_same (omega (arith, gate_fits)))
