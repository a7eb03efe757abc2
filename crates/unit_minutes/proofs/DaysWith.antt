-- The days as they are written with one minute more, and the bytes of slots that no write touches.
use Rattle.std.proofs.Common.{◌≡◌, ⊎_elim, ℕ, zero, suc, ◌+◌, ◌-◌, ◌*◌, ◌/◌, ◌<◌, ◌≤◌, Bool, true, false, cond, List, [], ◌∷◌, ◌++◌, length, drop, refl, ap, arith}
use Rattle.std.specs.Prelude.{◌==◌}
use Rattle.std.proofs.lemmas.Bool.{cases_lt}
use Rattle.std.proofs.lemmas.Bool.Decides.{nat_tests}
use Rattle.tach_media.specs.Medium.{SameOutside}
use Rattle.tach_media.proofs.Images.{part_before, part_after}
use Rattle.gated_ring.specs.Ring.{newest_of}
use Rattle.unit_model.specs.declared.layout.TheConstants.{DAYS, DAY_COUNT, DAY_SPARE, DAY_WORDS, DAY_WORD_LIMIT}
use Rattle.unit_model.specs.Days.{StoredDay, day_of}
use Rattle.unit_model.specs.Image.{slot_place, spare_bytes}
use Rattle.unit_minutes.specs.Coming.{Coming}
use Rattle.unit_minutes.specs.DaysWith.{day_with, closed_day, last_day_closed, begun_day, days_with}
use Rattle.unit_model.specs.Writing.{free_place, DiffersBehind}

module _ (k : ℕ) (coming : Coming) where
  -- only the last day changes
  pub with_last : (days : List StoredDay) (d : StoredDay) → days_with k coming (days ++ d ∷ []) ≡ days ++ days_with k coming (d ∷ [])
  with_last [] d = refl
  with_last (e ∷ []) d = refl
  with_last (e ∷ f ∷ days) d = ap (λ (l : List StoredDay). e ∷ l) (with_last (f ∷ days) d)

  pub with_same : (d : StoredDay) → day_of d ≡ coming.minute / 1440 → days_with k coming (d ∷ []) ≡ day_with k coming d ∷ []
  with_same d same =
      let here : (day_of d == coming.minute / 1440) ≡ true = grind (arith, nat_tests) in
      ap (λ (b : Bool). cond b (day_with k coming d ∷ []) (closed_day k d ∷ begun_day coming ∷ [])) here

  pub with_next : (d : StoredDay) → day_of d < coming.minute / 1440 → days_with k coming (d ∷ []) ≡ closed_day k d ∷ begun_day coming ∷ []
  with_next d earlier =
      let there : (day_of d == coming.minute / 1440) ≡ false = grind (arith, nat_tests) in
      ap (λ (b : Bool). cond b (day_with k coming d ∷ []) (closed_day k d ∷ begun_day coming ∷ [])) there

-- and so where it is closed
pub closed_last : (k : ℕ) (days : List StoredDay) (d : StoredDay) → last_day_closed k (days ++ d ∷ []) ≡ days ++ closed_day k d ∷ []
closed_last k [] d = refl
closed_last k (e ∷ []) d = refl
closed_last k (e ∷ f ∷ days) d = ap (λ (l : List StoredDay). e ∷ l) (closed_last k (f ∷ days) d)

pub newest_all : {X : Type 0} (n : ℕ) (xs : List X) → length xs ≤ n → newest_of n xs ≡ xs
newest_all n xs few = let none : length xs - n ≡ 0 = omega arith in ap (λ (k : ℕ). drop k xs) none

pub drop_push : {X : Type 0} (n : ℕ) (xs : List X) (v : X) → n ≤ length xs → drop n (xs ++ v ∷ []) ≡ drop n xs ++ v ∷ []
drop_push zero xs v le = refl
drop_push (suc n) [] v le = absurd (omega arith)
drop_push (suc n) (x ∷ xs) v le = drop_push n xs v (omega arith)

-- the spare bytes of each slot stay where words, a count, the odometer or the last-kept minute are written
pub spare_front : (a len : ℕ) (x c : List ℕ) → a + len ≤ DAYS.place → SameOutside a len x c → (j : ℕ) → spare_bytes c j ≡ spare_bytes x j
spare_front a len x c high same j = part_after a len (slot_place j + DAY_SPARE.place) DAY_SPARE.size x c same (omega (arith, high))

pub spare_behind : (i n : ℕ) (x c : List ℕ) → n ≤ DAY_WORD_LIMIT → DiffersBehind i n x c → (j : ℕ) → spare_bytes c j ≡ spare_bytes x j
spare_behind i n x c few same j = ⊎_elim
    (λ less. part_before (free_place i n) (DAY_WORDS.size - 2 * n) (slot_place j + DAY_SPARE.place) DAY_SPARE.size x c same (omega (arith, less)))
    (λ more. part_after (free_place i n) (DAY_WORDS.size - 2 * n) (slot_place j + DAY_SPARE.place) DAY_SPARE.size x c same (omega (arith, more, few)))
    (cases_lt j (i + 1))

pub spare_count : (i : ℕ) (x c : List ℕ) → SameOutside (slot_place i + DAY_COUNT.place) DAY_COUNT.size x c → (j : ℕ) → spare_bytes c j ≡ spare_bytes x j
spare_count i x c same j = ⊎_elim
    (λ less. part_before (slot_place i + DAY_COUNT.place) DAY_COUNT.size (slot_place j + DAY_SPARE.place) DAY_SPARE.size x c same (omega (arith, less)))
    (λ more. part_after (slot_place i + DAY_COUNT.place) DAY_COUNT.size (slot_place j + DAY_SPARE.place) DAY_SPARE.size x c same (omega (arith, more)))
    (cases_lt j i)
