-- The writes of the bytes beside a gate.
use Rattle.std.proofs.Common.{◌≡◌, ℕ, ◌+◌, ◌≤◌, List, length, ◌∙◌, arith}
use Rattle.tach_media.specs.Medium.{put, SameOutside, IsPartlyWritten}
use Rattle.tach_media.proofs.Images.{put_outside, part_before, part_after, outside_wider, outside_then}
use Rattle.gated_ring.specs.Ring.{Shape, place_of, gate_of}
use Rattle.gated_ring.proofs.Steps.{IsFilling}

module _ (r : Shape) (i p : ℕ) (front x : List ℕ) (at : p ≡ place_of r i) (front_fits : length front ≤ r.gate) (gate_fits : r.gate + 4 ≤ r.width) where
  pub filling_front : (c : List ℕ) → IsPartlyWritten p front x c → IsFilling r i x c
  filling_front c part = record {
    outside = outside_wider (place_of r i) r.width p (length front) x c part.outside (omega (arith, at)) (omega (arith, at, front_fits, gate_fits));
    gate = part_after p (length front) (gate_of r i) 4 x c part.outside (omega (arith, at, front_fits));
  }

  pub filling_back : (q : ℕ) (back c : List ℕ) → q ≡ gate_of r i + 4 → length back + r.gate + 4 ≤ r.width → place_of r i + r.width ≤ length x → IsPartlyWritten q back (put p front x) c → IsFilling r i x c
  filling_back q back c behind back_fits inside part =
      let y = put p front x in
      let first : SameOutside p (length front) x y = put_outside p front x (omega (arith, at, inside, front_fits, gate_fits)) in
      record {
        outside = outside_then (place_of r i) r.width x y c (outside_wider (place_of r i) r.width p (length front) x y first (omega (arith, at)) (omega (arith, at, front_fits, gate_fits)))
            (outside_wider (place_of r i) r.width q (length back) y c part.outside (omega (arith, behind)) (omega (arith, behind, back_fits)));
        gate = part_before q (length back) (gate_of r i) 4 y c part.outside (omega (arith, behind)) ∙ part_after p (length front) (gate_of r i) 4 x y first (omega (arith, at, front_fits));
      }
