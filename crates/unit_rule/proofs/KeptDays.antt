-- The day slots at a moment of a `keep`: each is one of those before, or is begun by the minute.
use Rattle.std.proofs.Common.{◌≡◌, ◌≢◌, ◌⊎◌, inl, inr, ⊎_elim, ℕ, ◌-◌, ◌*◌, ◌/◌, ◌<◌, ◌≤◌, Bool, true, false, not, cond, List, [], ◌∷◌, ◌++◌, IfSome, All, length, map, refl, ap, sym, subst, ◌∙◌, arith, lit≤}
use Rattle.std.specs.Prelude.{◌==◌}
use Rattle.std.proofs.lemmas.Bool.{cases_lt}
use Rattle.std.proofs.lemmas.Bool.Decides.{nat_tests}
use Rattle.std.proofs.lemmas.List.{map-append}
use Rattle.std.proofs.lemmas.List.Elements.{All-nil, All-cons, All-head, All-tail, All-weaker, All-drop, All-push, All-contains}
use Rattle.unit_minutes.specs.activity_codec.declared.values.Activity.{Activity}
use Rattle.unit_minutes.specs.activity_codec.declared.values.Activity.TheVariants.{Rest, Available, Work, Driving}
use Rattle.unit_minutes.specs.activity_codec.Words.{bit, activity_number}
use Rattle.tach_media.specs.Medium.{State, LeavesOnly}
use Rattle.tach_media.proofs.Runs.{weaken, at_image}
use Rattle.unit_minutes.specs.gated_ring.Ring.{newest_of}
use Rattle.unit_minutes.specs.unit_model.declared.layout.TheConstants.{DAY_SLOTS}
use Rattle.unit_minutes.specs.unit_model.Days.{StoredDay, Each, day_of}
use Rattle.unit_minutes.specs.unit_model.Image.{last_kept, unit_days}
use Rattle.unit_minutes.proofs.unit_model.Recorded.{date_in}
use Rattle.unit_minutes.proofs.unit_model.Slots.{day_at, all_days}
use Rattle.unit_minutes.specs.DaysWith.{day_with, closed_day, begun_day, days_with, last_day_closed, opened_day, AreTurning, AreBetween}
use Rattle.unit_minutes.specs.DayOdometers.{HasSlot}
use Rattle.unit_minutes.specs.declared.notes.Notes.{Notes}
use Rattle.unit_minutes.specs.Image.{Agrees}
use Rattle.unit_minutes.specs.Keeping.{IsKeeping}
use Rattle.unit_minutes.specs.declared.kept.KeptMinute.{KeptMinute}
use Rattle.unit_minutes.specs.Kept.{bits_by, is_crew, kept_minute, coming_of, HasDaysBetween}
use Rattle.unit_minutes.proofs.DayOdometers.{slots-of}
use Rattle.unit_minutes.proofs.WrittenDays.{keeping-written}
use Rattle.unit_rule.specs.Odometer.{IsKeepingDays}
use Rattle.unit_rule.proofs.Moves.{both-leave}

each-all : (P : StoredDay → Type 0) (ds : List StoredDay) → Each P ds → All P ds
each-all P [] each = All-nil P
each-all P (d ∷ ds) each = All-cons P d ds each.0 (each-all P ds each.1)

-- the newest day is that of the last-kept minute; where there is none, the minute that comes is of a later one
abbrev IsLast : (k m : ℕ) → List StoredDay → Type 0
IsLast k m [] = k / 1440 < m / 1440
IsLast k m (d ∷ []) = day_of d ≡ k / 1440
IsLast k m (d ∷ e ∷ ds) = IsLast k m (e ∷ ds)

last-pushed : (k m : ℕ) (ds : List StoredDay) (d : StoredDay) → day_of d ≡ k / 1440 → IsLast k m (ds ++ d ∷ [])
last-pushed k m [] d is = is
last-pushed k m (e ∷ []) d is = is
last-pushed k m (e ∷ f ∷ ds) d is = last-pushed k m (f ∷ ds) d is

-- WHAT AN IMAGE HAS with which a journal agrees
record HasDays (k m : ℕ) (x : List ℕ) : Type 0 where
  low : All (λ d. day_of d ≤ k / 1440) (unit_days x)
  last : IsLast k m (unit_days x)

agreed-days : (j : Notes) (m : ℕ) (x : List ℕ) → Agrees j x → 1440 ≤ m → HasDays j.kept m x
agreed-days j m x agrees day = elim (cases_lt 0 j.kept) as (λ v. HasDays j.kept m x) [
  | inl some ↦
      let older : List ℕ = (agrees.newest some).0 in
      let n = (agrees.newest some).1 in
      let is : unit_days x ≡ map (day_at x) older ++ day_at x j.index ∷ [] = all_days x ∙ ap (map (day_at x)) n.order_is ∙ map-append (day_at x) older (j.index ∷ []) in
      let whole : 86400 * (j.kept / 1440) / 86400 ≡ j.kept / 1440 = omega arith in
      let today : day_of (day_at x j.index) ≡ j.kept / 1440 = ap (λ (d : ℕ). d / 86400) (date_in x j.index ∙ n.date) ∙ whole in
      record {
        low = subst (All (λ (d : StoredDay). day_of d ≤ j.kept / 1440)) (sym is)
            (All-push (λ (d : StoredDay). day_of d ≤ j.kept / 1440) (map (day_at x) older) (day_at x j.index)
            (All-weaker (λ (d : StoredDay). day_of d < j.kept / 1440) (λ (d : StoredDay). day_of d ≤ j.kept / 1440) (λ d lt. omega (arith, lt)) (map (day_at x) older)
            (each-all (λ (d : StoredDay). day_of d < j.kept / 1440) (map (day_at x) older) n.earlier)) (omega (arith, today)));
        last = subst (IsLast j.kept m) (sym is) (last-pushed j.kept m (map (day_at x) older) (day_at x j.index) today);
      }
  | inr none ↦
      let is : unit_days x ≡ [] = all_days x ∙ ap (map (day_at x)) (agrees.none (omega (arith, none))) in
      let later : 0 < m / 1440 = omega (arith, day) in
      record {
        low = subst (All (λ (d : StoredDay). day_of d ≤ j.kept / 1440)) (sym is) (All-nil (λ (d : StoredDay). day_of d ≤ j.kept / 1440));
        last = subst (IsLast j.kept m) (sym is) (let zero_kept : j.kept / 1440 ≡ 0 = omega (arith, none) in let lt : j.kept / 1440 < m / 1440 = omega (arith, zero_kept, later) in lt);
      }
]

module _ (k : ℕ) (m : KeptMinute) (x : List ℕ) where
  -- a day that there was, or the one that the minute begins
  abbrev IsOld : StoredDay → Type 0
  IsOld d = HasSlot x (day_of d) d.odometer

  abbrev IsNew : ℕ → ℕ → Type 0
  IsNew day o = (k / 1440 < m.minute / 1440) × (day ≡ m.minute / 1440) × (o ≡ m.odometer.0)

  abbrev IsEither : StoredDay → Type 0
  IsEither d = IsOld d ⊎ IsNew (day_of d) d.odometer

  old-all : (ds : List StoredDay) → All IsOld ds → All IsEither ds
  old-all ds h = All-weaker IsOld IsEither (λ d old. inl old) ds h

  closed-all : (ds : List StoredDay) → All IsOld ds → All IsEither (last_day_closed k ds)
  closed-all [] h = All-nil IsEither
  closed-all (d ∷ []) h = All-cons IsEither (closed_day k d) [] (inl (All-head IsOld d [] h)) (All-nil IsEither)
  closed-all (d ∷ e ∷ ds) h = All-cons IsEither d (last_day_closed k (e ∷ ds)) (inl (All-head IsOld d (e ∷ ds) h)) (closed-all (e ∷ ds) (All-tail IsOld d (e ∷ ds) h))

  day-begun : 86400 * (m.minute / 1440) / 86400 ≡ m.minute / 1440
  day-begun = omega arith

  with-all : k < m.minute → (ds : List StoredDay) → All IsOld ds → IsLast k m.minute ds → All IsEither (days_with k (coming_of m) ds)
  with-all later [] h last = All-cons IsEither (begun_day (coming_of m)) [] (inr (last, day-begun, refl)) (All-nil IsEither)
  with-all later (d ∷ []) h last = by (day_of d == m.minute / 1440) refl
    where
      by : (b : Bool) → (day_of d == m.minute / 1440) ≡ b → All IsEither (cond b (day_with k (coming_of m) d ∷ []) (closed_day k d ∷ begun_day (coming_of m) ∷ []))
      by true is = All-cons IsEither (day_with k (coming_of m) d) [] (inl (All-head IsOld d [] h)) (All-nil IsEither)
      by false is =
          let other : day_of d ≢ m.minute / 1440 = grind (arith, nat_tests, is) in
          let le : k / 1440 ≤ m.minute / 1440 = omega (arith, later) in
          let newest : day_of d ≡ k / 1440 = last in
          let lt : k / 1440 < m.minute / 1440 = ⊎_elim (λ (lt : k / 1440 < m.minute / 1440). lt) (λ ge. absurd (other (omega (arith, le, ge, newest)))) (cases_lt (k / 1440) (m.minute / 1440)) in
          All-cons IsEither (closed_day k d) (begun_day (coming_of m) ∷ []) (inl (All-head IsOld d [] h)) (All-cons IsEither (begun_day (coming_of m)) [] (inr (lt, day-begun, refl)) (All-nil IsEither))
  with-all later (d ∷ e ∷ ds) h last =
      All-cons IsEither d (days_with k (coming_of m) (e ∷ ds)) (inl (All-head IsOld d (e ∷ ds) h)) (with-all later (e ∷ ds) (All-tail IsOld d (e ∷ ds) h) last)

  newest-all : (n : ℕ) (ds : List StoredDay) → All IsEither ds → All IsEither (newest_of n ds)
  newest-all n ds h = All-drop IsEither (length ds - n) ds h

  -- where a further day begins
  turning-all : (now : List StoredDay) → k / 1440 < m.minute / 1440 → AreTurning k (coming_of m) (unit_days x) now → All IsEither now
  turning-all now lt (inl is) = subst (All IsEither) (sym is) (closed-all (unit_days x) (slots-of x))
  turning-all now lt (inr (inl is)) = subst (All IsEither) (sym is) (newest-all (DAY_SLOTS - 1) (last_day_closed k (unit_days x)) (closed-all (unit_days x) (slots-of x)))
  turning-all now lt (inr (inr is)) = subst (All IsEither) (sym is)
      (newest-all DAY_SLOTS (last_day_closed k (unit_days x) ++ opened_day (coming_of m) ∷ [])
      (All-push IsEither (last_day_closed k (unit_days x)) (opened_day (coming_of m)) (closed-all (unit_days x) (slots-of x)) (inr (lt, day-begun, refl))))

  -- at each moment
  between-all : last_kept x ≡ k → k < m.minute → IsLast k m.minute (unit_days x) → (c : List ℕ) → AreBetween (coming_of m) x c → All IsEither (unit_days c)
  between-all kept later last c b = ⊎_elim
      (λ same. subst (All IsEither) (sym same) (old-all (unit_days x) (slots-of x)))
      (λ moved. ⊎_elim
      (λ is. subst (All IsEither) (sym (is ∙ ap (λ (n : ℕ). newest_of DAY_SLOTS (days_with n (coming_of m) (unit_days x))) kept)) (newest-all DAY_SLOTS (days_with k (coming_of m) (unit_days x)) (with-all later (unit_days x) (slots-of x) last)))
      (λ turning. turning-all (unit_days c) (subst (λ (n : ℕ). n / 1440 < m.minute / 1440) kept turning.0) (subst (λ (n : ℕ). AreTurning n (coming_of m) (unit_days x) (unit_days c)) kept turning.1))
      moved)
      b.days

-- ---- the bits of a state
bit-low : (b : Bool) → bit b ≤ 1
bit-low true = lit≤ tt
bit-low false = lit≤ tt

number-low : (a : Activity) → activity_number a ≤ 3
number-low Rest = lit≤ tt
number-low Available = lit≤ tt
number-low Work = lit≤ tt
number-low Driving = lit≤ tt

bits-low : (act : Activity) (present crew : Bool) → bits_by act present crew < 16
bits-low act present crew = omega (arith, bit-low crew, bit-low (not present), number-low act)

-- A MOMENT OF A KEEP, by what the journal says of it
pub keeping-days : (j : Notes) (k : KeptMinute) (x c : List ℕ) → Agrees j x → 1440 ≤ k.minute → j.kept < k.minute → IsKeeping (kept_minute k) k.odometer.0 x c → HasDaysBetween k x c → IsKeepingDays (kept_minute k) k.odometer.0 x c
keeping-days j k x c agrees day later moment between =
    let days = agreed-days j k.minute x agrees day in
    let kept = agrees.kept in
    record {
      moment = moment;
      slots = λ d o s.
          let either = All-contains (IsEither j.kept k x) (unit_days c) s.slot (between-all j.kept k x kept later days.last c between) s.there in
          ⊎_elim
          (λ old. inl (record { slot = old.slot; there = old.there; day_is = old.day_is ∙ s.day_is; odometer_is = old.odometer_is ∙ s.odometer_is }))
          (λ new. inr (subst (λ (n : ℕ). n / 1440 < k.minute / 1440) (sym kept) new.0, sym s.day_is ∙ new.1, sym s.odometer_is ∙ new.2))
          either;
      earlier = λ d o s.
          subst (λ (n : ℕ). d ≤ n / 1440) (sym kept) (subst (λ (n : ℕ). n ≤ j.kept / 1440) s.day_is (All-contains (λ (e : StoredDay). day_of e ≤ j.kept / 1440) (unit_days x) s.slot days.low s.there));
      written = keeping-written j (coming_of k) (kept_minute k) k.odometer.0 x c refl agrees day later (bits-low k.driver.act k.driver.present (is_crew k)) (bits-low k.codriver.act k.codriver.present (is_crew k)) moment between;
    }

pub keeping-run : {U V : State} (j : Notes) (k : KeptMinute) → IfSome U.image (Agrees j) → 1440 ≤ k.minute → j.kept < k.minute →
    LeavesOnly U V (IsKeeping (kept_minute k) k.odometer.0) → LeavesOnly U V (HasDaysBetween k) → LeavesOnly U V (IsKeepingDays (kept_minute k) k.odometer.0)
keeping-run j k agrees day later moments words =
    weaken (both-leave moments words) (λ x c was both. keeping-days j k x c (at_image (Agrees j) was agrees) day later both.0 both.1)
