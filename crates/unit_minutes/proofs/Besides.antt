-- What a `keep` leaves alone, and how many days there are.
use Rattle.std.proofs.Common.{◌≡◌, ℕ, suc, ◌+◌, ◌-◌, ◌<◌, ◌≤◌, Bool, true, false, cond, List, [], ◌∷◌, length, drop, filter, inl, inr, ◌∙◌, ap, arith, length-append, ◌/◌}
use Rattle.std.proofs.lemmas.List.{length-map}
use Rattle.std.specs.Prelude.{◌⊎◌, nat_le}
use Rattle.std.specs.List.{range_with_len}
use Rattle.std.proofs.lemmas.Bool.Decides.{nat_tests}
use Rattle.std.proofs.lemmas.List.FromFn.{length-range_with_len}
use Rattle.tach_media.specs.Medium.{SameOutside}
use Rattle.tach_media.proofs.Images.{part_before, part_after, outside_wider}
use Rattle.gated_ring.specs.Ring.{indices as ring_indices, pointer, is_there, next, order}
use Rattle.unit_model.specs.declared.layout.TheConstants.{DAYS, DAY_SLOTS, FIRST_OVER, INSERTIONS, LAST_KEPT, ODOMETER, OWED, SPARE_ROWS}
use Rattle.unit_model.specs.Days.{ShownDay, UnitMinute, day_of, day_shown, newest_days}
use Rattle.unit_model.specs.Image.{day_ring, slot_place, last_kept, odometer_at, indices, unit_days, recorded}
use Rattle.unit_model.specs.Retention.{retained}
use Rattle.unit_minutes.specs.Keeping.{SameBesides, IsGivenUp, IsBeforeLastKept, IsBehindLastKept}
use Rattle.unit_minutes.specs.Mends.{SameButRowsAndSlots}
use Rattle.unit_model.proofs.Slots.{day_at, all_days}
use Rattle.unit_model.proofs.Front.{HasOdometer}

pub besides_then : (x y c : List ℕ) → SameBesides x y → SameBesides y c → SameBesides x c
besides_then x y c first next = record { before = next.before ∙ first.before; between = next.between ∙ first.between; after = next.after ∙ first.after; same_length = next.same_length ∙ first.same_length }

pub besides_front : (a n : ℕ) (x c : List ℕ) → LAST_KEPT.place ≤ a → a + n ≤ FIRST_OVER.place → SameOutside a n x c → SameBesides x c
besides_front a n x c low high same = record {
  before = (outside_wider LAST_KEPT.place (LAST_KEPT.size + ODOMETER.size) a n x c same low (omega (arith, high))).before;
  between = part_after a n FIRST_OVER.place (DAYS.place - FIRST_OVER.place) x c same high;
  after = (outside_wider LAST_KEPT.place (INSERTIONS.place - LAST_KEPT.place) a n x c same low (omega (arith, high))).after;
  same_length = same.same_length;
}

pub besides_days : (a n : ℕ) (x c : List ℕ) → DAYS.place ≤ a → a + n ≤ INSERTIONS.place → SameOutside a n x c → SameBesides x c
besides_days a n x c low high same = record {
  before = (outside_wider LAST_KEPT.place (INSERTIONS.place - LAST_KEPT.place) a n x c same (omega (arith, low)) (omega (arith, high))).before;
  between = part_before a n FIRST_OVER.place (DAYS.place - FIRST_OVER.place) x c same low;
  after = (outside_wider LAST_KEPT.place (INSERTIONS.place - LAST_KEPT.place) a n x c same (omega (arith, low)) (omega (arith, high))).after;
  same_length = same.same_length;
}

-- what a `mend` leaves alone, by writes in the owed rows and in the day slots
pub rows_outside : (x c : List ℕ) → SameOutside OWED.place OWED.size x c → SameButRowsAndSlots x c
rows_outside x c same = record { before = same.before; between = part_after OWED.place OWED.size SPARE_ROWS.place (SPARE_ROWS.size + 4) x c same (omega arith); after = (outside_wider OWED.place (INSERTIONS.place - OWED.place) OWED.place OWED.size x c same (omega arith) (omega arith)).after; same_length = same.same_length }

pub slots_outside : (x c : List ℕ) → SameOutside (slot_place 0) (DAYS.size - 4) x c → SameButRowsAndSlots x c
slots_outside x c same = record { before = (outside_wider OWED.place (INSERTIONS.place - OWED.place) (slot_place 0) (DAYS.size - 4) x c same (omega arith) (omega arith)).before; between = part_before (slot_place 0) (DAYS.size - 4) SPARE_ROWS.place (SPARE_ROWS.size + 4) x c same (omega arith); after = same.after; same_length = same.same_length }

pub outside_both : (x y c : List ℕ) → SameButRowsAndSlots x y → SameButRowsAndSlots y c → SameButRowsAndSlots x c
outside_both x y c first next = record { before = next.before ∙ first.before; between = next.between ∙ first.between; after = next.after ∙ first.after; same_length = next.same_length ∙ first.same_length }

-- the side of a moment before the mark, and behind it
abbrev pub Side : (k : UnitMinute) (odometer : ℕ) (x c : List ℕ) → Type 0
Side k odometer x c = IsBeforeLastKept k odometer x c ⊎ IsBehindLastKept k odometer x c

pub before_first : (k : UnitMinute) (odometer : ℕ) (x c : List ℕ) → (last_kept c ≡ last_kept x) × (odometer_at c ≡ odometer_at x) → recorded c ≡ recorded x → Side k odometer x c
before_first k odometer x c same minutes = inl (record { last = same.0; odometer_is = inl same.1; minutes = inl minutes })

pub before_mark : (k : UnitMinute) (odometer : ℕ) (x c : List ℕ) → HasOdometer odometer x c → (recorded c ≡ recorded x) ⊎ IsGivenUp k x c → Side k odometer x c
before_mark k odometer x c has minutes = inl (record { last = has.kept; odometer_is = inr has.odometer_is; minutes = minutes })

pub behind_mark : (k : UnitMinute) (odometer : ℕ) (x c : List ℕ) → last_kept c ≡ k.minute → odometer_at c ≡ odometer → recorded c ≡ retained (recorded x) k → Side k odometer x c
behind_mark k odometer x c last is minutes = inr (record { last = last; odometer_is = is; minutes = minutes })

filter_few : {X : Type 0} (p : X → Bool) (xs : List X) → length (filter p xs) ≤ length xs
filter_few p [] = omega arith
filter_few {X} p (x ∷ xs) = by (filter_few p xs) (p x)
  where
    by : length (filter p xs) ≤ length xs → (b : Bool) → length (cond b (x ∷ filter p xs) (filter p xs)) ≤ suc (length xs)
    by few true = omega arith
    by few false = omega arith

-- at most as many days as slots
pub few_slots : (x : List ℕ) → pointer day_ring x < DAY_SLOTS → length (unit_days x) ≤ DAY_SLOTS
unfolding indices ring_indices
few_slots x known =
    let i = next day_ring (pointer day_ring x) in
    let i_below : i < DAY_SLOTS = next_below (pointer day_ring x) known in
    let all = order day_ring i in
    let there = filter (is_there day_ring x) all in
    let days_length : length (unit_days x) ≡ length there = ap length (all_days x) ∙ length-map there (day_at x) in
    let all_length : length all ≡ DAY_SLOTS = omega (arith, length-append (range_with_len i (DAY_SLOTS - i)) (range_with_len 0 i), length-range_with_len i (DAY_SLOTS - i), length-range_with_len 0 i) in
    omega (arith, days_length, filter_few (is_there day_ring x) all, all_length)
  where
    next_below : (p : ℕ) → p < DAY_SLOTS → next day_ring p < DAY_SLOTS
    next_below p below = grind (arith, nat_tests)

pub few_days : (x : List ℕ) → pointer day_ring x < DAY_SLOTS → length (recorded x) ≤ DAY_SLOTS
unfolding recorded
few_days x known =
    let days = unit_days x in
    let shown = filter (λ d. nat_le (day_of d) (last_kept x / 1440)) days in
    omega (arith, length-map shown (day_shown (last_kept x)), filter_few (λ d. nat_le (day_of d) (last_kept x / 1440)) days, few_slots x known)

pub all_newest : (n : ℕ) (days : List ShownDay) → length days ≤ n → newest_days n days ≡ days
all_newest n days few = let none : length days - n ≡ 0 = omega arith in ap (λ (k : ℕ). drop k days) none
