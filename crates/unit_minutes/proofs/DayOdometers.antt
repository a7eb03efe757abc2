-- The odometers of the recorded days, where days stay, or are cut off.
use Rattle.std.proofs.Common.{◌≡◌, ℕ, ◌/◌, ◌%◌, ◌≤◌, Bool, true, false, cond, List, [], ◌∷◌, All, Contains, map, filter, refl, sym, subst, ◌∙◌, arith}
use Rattle.std.specs.Prelude.{◌==◌, nat_le}
use Rattle.std.proofs.lemmas.Bool.Decides.{nat_tests}
use Rattle.std.proofs.lemmas.List.Elements.{All-nil, All-cons, All-head, All-tail, All-weaker, All-map, All-filter, All-contains, All-contains_itself}
use Rattle.unit_model.specs.Days.{StoredDay, word_minute, day_of, day_kept, days_kept}
use Rattle.unit_model.specs.Image.{last_kept, unit_days}
use Rattle.unit_minutes.specs.DayOdometers.{HasSlot, RecordsDay}

-- a day has a slot
pub slot-of : (x : List ℕ) (d : StoredDay) → Contains (unit_days x) d → HasSlot x (day_of d) d.odometer
slot-of x d at = record { slot = d; there = at; day_is = refl; odometer_is = refl }

pub slots-of : (x : List ℕ) → All (λ d. HasSlot x (day_of d) d.odometer) (unit_days x)
slots-of x = All-weaker (Contains (unit_days x)) (λ (d : StoredDay). HasSlot x (day_of d) d.odometer) (slot-of x) (unit_days x) (All-contains_itself (unit_days x))

-- where the days are the same
pub records-same : (x c : List ℕ) → unit_days c ≡ unit_days x → last_kept c ≡ last_kept x → (day odometer : ℕ) → RecordsDay c day odometer → RecordsDay x day odometer
records-same x c days last day odometer r = record {
  has = record { slot = r.has.slot; there = subst (λ (ds : List StoredDay). Contains ds r.has.slot) days r.has.there; day_is = r.has.day_is; odometer_is = r.has.odometer_is };
  kept = subst (λ (n : ℕ). day ≤ n / 1440) last r.kept;
}

-- words that are cut off leave the day and its odometer
day-cut : (k : ℕ) (d : StoredDay) → day_of (day_kept k d) ≡ day_of d
day-cut k d = by (day_of d == k / 1440)
  where
    by : (b : Bool) → day_of (cond b (record { date = d.date; odometer = d.odometer; words = filter (λ w. nat_le (word_minute w) (k % 1440)) d.words }) d) ≡ day_of d
    by true = refl
    by false = refl

odometer-cut : (k : ℕ) (d : StoredDay) → (day_kept k d).odometer ≡ d.odometer
odometer-cut k d = by (day_of d == k / 1440)
  where
    by : (b : Bool) → (cond b (record { date = d.date; odometer = d.odometer; words = filter (λ w. nat_le (word_minute w) (k % 1440)) d.words }) d).odometer ≡ d.odometer
    by true = refl
    by false = refl

-- what holds of the days that are kept holds of each that is not later, once its words are cut
kept-each : (P : StoredDay → Type 0) (k : ℕ) (ds : List StoredDay) → All P (days_kept k ds) → All (λ d. day_of d ≤ k / 1440 → P (day_kept k d)) ds
kept-each P k [] h = All-nil (λ (d : StoredDay). day_of d ≤ k / 1440 → P (day_kept k d))
kept-each P k (d ∷ ds) h = by (nat_le (day_of d) (k / 1440)) refl h (λ rest. kept-each P k ds rest)
  where
    late : nat_le (day_of d) (k / 1440) ≡ false → day_of d ≤ k / 1440 → P (day_kept k d)
    late is le = absurd (grind (arith, nat_tests, is, le))

    by : (b : Bool) → nat_le (day_of d) (k / 1440) ≡ b →
        All P (map (day_kept k) (cond b (d ∷ filter (λ (e : StoredDay). nat_le (day_of e) (k / 1440)) ds) (filter (λ (e : StoredDay). nat_le (day_of e) (k / 1440)) ds))) →
        (All P (days_kept k ds) → All (λ (e : StoredDay). day_of e ≤ k / 1440 → P (day_kept k e)) ds) → All (λ (e : StoredDay). day_of e ≤ k / 1440 → P (day_kept k e)) (d ∷ ds)
    by true is all rest =
        All-cons (λ (e : StoredDay). day_of e ≤ k / 1440 → P (day_kept k e)) d ds (λ le. All-head P (day_kept k d) (days_kept k ds) all) (rest (All-tail P (day_kept k d) (days_kept k ds) all))
    by false is all rest = All-cons (λ (e : StoredDay). day_of e ≤ k / 1440 → P (day_kept k e)) d ds (late is) (rest all)

-- the days that are kept have slots
kept-slots : (k : ℕ) (x : List ℕ) → All (λ d. HasSlot x (day_of d) d.odometer) (days_kept k (unit_days x))
kept-slots k x =
    let Slot : StoredDay → Type 0 = λ d. HasSlot x (day_of d) d.odometer in
    All-map Slot (day_kept k) (filter (λ (d : StoredDay). nat_le (day_of d) (k / 1440)) (unit_days x))
    (All-weaker Slot (λ (d : StoredDay). Slot (day_kept k d))
    (λ d s. record { slot = s.slot; there = s.there; day_is = s.day_is ∙ sym (day-cut k d); odometer_is = s.odometer_is ∙ sym (odometer-cut k d) })
    (filter (λ (d : StoredDay). nat_le (day_of d) (k / 1440)) (unit_days x))
    (All-filter (λ (d : StoredDay). nat_le (day_of d) (k / 1440)) Slot (unit_days x) (slots-of x)))

-- where the days that are kept are the same
pub records-kept : (k : ℕ) (x c : List ℕ) → last_kept x ≡ k → last_kept c ≡ k → days_kept k (unit_days c) ≡ days_kept k (unit_days x) → (day odometer : ℕ) → RecordsDay c day odometer → RecordsDay x day odometer
records-kept k x c mine yours days day odometer r =
    let Slot : StoredDay → Type 0 = λ d. HasSlot x (day_of d) d.odometer in
    let there : All Slot (days_kept k (unit_days c)) = subst (All Slot) (sym days) (kept-slots k x) in
    let low : day_of r.has.slot ≤ k / 1440 = subst (λ (n : ℕ). day_of r.has.slot ≤ n / 1440) yours (subst (λ (n : ℕ). n ≤ last_kept c / 1440) (sym r.has.day_is) r.kept) in
    let s : Slot (day_kept k r.has.slot) = All-contains (λ (d : StoredDay). day_of d ≤ k / 1440 → Slot (day_kept k d)) (unit_days c) r.has.slot (kept-each Slot k (unit_days c) there) r.has.there low in
    record {
      has = record { slot = s.slot; there = s.there; day_is = s.day_is ∙ day-cut k r.has.slot ∙ r.has.day_is; odometer_is = s.odometer_is ∙ odometer-cut k r.has.slot ∙ r.has.odometer_is };
      kept = subst (λ (n : ℕ). day ≤ n / 1440) (yours ∙ sym mine) r.kept;
    }

-- where they are all that is left
pub records-cut : (k : ℕ) (x c : List ℕ) → last_kept c ≡ last_kept x → unit_days c ≡ days_kept k (unit_days x) → (day odometer : ℕ) → RecordsDay c day odometer → RecordsDay x day odometer
records-cut k x c last days day odometer r =
    let Slot : StoredDay → Type 0 = λ d. HasSlot x (day_of d) d.odometer in
    let s : Slot r.has.slot = All-contains Slot (unit_days c) r.has.slot (subst (All Slot) (sym days) (kept-slots k x)) r.has.there in
    record {
      has = record { slot = s.slot; there = s.there; day_is = s.day_is ∙ r.has.day_is; odometer_is = s.odometer_is ∙ r.has.odometer_is };
      kept = subst (λ (n : ℕ). day ≤ n / 1440) last r.kept;
    }
