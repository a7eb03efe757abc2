-- The last-kept minute and the odometer under writes.
use Rattle.std.proofs.Common.{◌≡◌, ℕ, ◌≤◌, List, length, ◌∙◌, arith}
use Rattle.std.specs.Int.{to_be_bytes, w32}
use Rattle.gated_ring.specs.tach_media.Medium.{SameOutside}
use Rattle.gated_ring.proofs.tach_media.Images.{put_outside}
use Rattle.unit_model.specs.declared.layout.TheConstants.{FIRST_OVER, HIGHEST_ODOMETER, IMAGE_SIZE, LAST_KEPT, ODOMETER}
use Rattle.unit_model.specs.Image.{last_kept, odometer_at}
use Rattle.unit_model.specs.Writing.{with_odometer}
use Rattle.unit_model.proofs.Numbers.{number_before, number_put4}

-- writes among the days leave the last-kept minute and the odometer alone
pub front_days : (a n : ℕ) (x c : List ℕ) → FIRST_OVER.place ≤ a → SameOutside a n x c → (last_kept c ≡ last_kept x) × (odometer_at c ≡ odometer_at x)
unfolding last_kept odometer_at
front_days a n x c le same = (number_before a n LAST_KEPT.place LAST_KEPT.size x c same (omega (arith, le)), number_before a n ODOMETER.place ODOMETER.size x c same (omega (arith, le)))

-- the odometer is the new one, the last-kept minute the old one
pub record HasOdometer (odometer : ℕ) (x c : List ℕ) : Type 0 where
  pub kept : last_kept c ≡ last_kept x
  pub odometer_is : odometer_at c ≡ odometer

pub front_odometer : (odometer : ℕ) (x : List ℕ) → length x ≡ IMAGE_SIZE → odometer ≤ HIGHEST_ODOMETER → HasOdometer odometer x (with_odometer odometer x)
unfolding last_kept odometer_at
front_odometer odometer x sized far = record {
  kept = number_before ODOMETER.place ODOMETER.size LAST_KEPT.place LAST_KEPT.size x (with_odometer odometer x) (put_outside ODOMETER.place (to_be_bytes w32 odometer) x (omega (arith, sized))) (omega arith);
  odometer_is = number_put4 ODOMETER.place odometer x (omega (arith, sized)) (omega (arith, far));
}

pub front_then : (odometer a n : ℕ) (x y c : List ℕ) → HasOdometer odometer x y → FIRST_OVER.place ≤ a → SameOutside a n y c → HasOdometer odometer x c
front_then odometer a n x y c has le same = let both = front_days a n y c le same in record { kept = both.0 ∙ has.kept; odometer_is = both.1 ∙ has.odometer_is }
