-- The moments of a `keep` on the day of the last-kept minute, and what it leaves.
use Rattle.std.proofs.Common.{◌≡◌, ◌≢◌, inl, inr, ⊎_elim, ℕ, ◌+◌, ◌-◌, ◌*◌, ◌/◌, ◌%◌, ◌<◌, ◌≤◌, Bool, true, false, cond, List, [], ◌∷◌, ◌++◌, length, map, refl, sym, ◌∙◌, ap, subst, arith, length-append, lit≤}
use Rattle.std.specs.Prelude.{◌==◌, ◌⊎◌}
use Rattle.std.specs.Int.{to_be_bytes, w16, w32}
use Rattle.std.proofs.lemmas.Bool.Decides.{nat_tests}
use Rattle.tach_media.specs.Medium.{SameOutside, IsPartlyWritten}
use Rattle.tach_media.proofs.Images.{put_outside}
use Rattle.gated_ring.specs.Ring.{number_at, pointer, newest_of}
use Rattle.unit_model.specs.declared.layout.TheConstants.{DAY_COUNT, DAY_SLOTS, DAY_WORDS, DAY_WORD_LIMIT, LAST_KEPT, ODOMETER}
use Rattle.unit_model.specs.Days.{word_minute, word_by, bare, state_at, UnitMinute, ShownDay, StoredDay, day_of, days_shown, filled, Each, minute_by}
use Rattle.unit_model.specs.Changes.{change, changes, new_words}
use Rattle.unit_model.specs.Retention.{retained}
use Rattle.unit_minutes.specs.DaysWith.{days_with, HasDays, AreBetween}
use Rattle.unit_minutes.proofs.DaysWith.{with_last, with_same, newest_all, spare_front, spare_behind, spare_count}
use Rattle.unit_model.specs.Image.{day_ring, slot_place, last_kept, odometer_at, recorded, unit_days, spare_bytes, slot_odometer, slot_words}
use Rattle.unit_model.proofs.Checks.{passes, IsGood, still}
use Rattle.unit_model.proofs.StillDecodes.{counted_good}
use Rattle.unit_model.proofs.WordsGood.{new_good}
use Rattle.unit_model.proofs.KeptDecodes.{behind_good, day_good, last_day, put_odometer_good, odometer_decodes}
use Rattle.std.specs.List.{list_all}
use Rattle.std.proofs.lemmas.List.FromFn.{length-map-range_with_len}
use Rattle.unit_model.specs.Decoding.{Decodes, word_checks}
use Rattle.unit_minutes.specs.Coming.{Coming, IsComing}
use Rattle.unit_minutes.specs.Minute.{notes_on}
use Rattle.unit_minutes.specs.Image.{Notes, IsNewestDay, Agrees}
use Rattle.unit_minutes.specs.Keeping.{SameBesides, IsKeeping}
use Rattle.unit_minutes.proofs.Premises.{IsNoted}
use Rattle.unit_model.specs.Writing.{written, free_place, DiffersBehind, with_odometer, with_kept, with_words}
use Rattle.unit_minutes.specs.Plans.{counted, mark, going}
use Rattle.unit_minutes.proofs.Planned.{counted_put, counted_moment}
use Rattle.tach_media.specs.Plan.{put_all, IsPartway}
use Rattle.tach_media.proofs.Plans.{put_all-append, partway_either}
use Rattle.unit_model.proofs.States.{each_append, new_minutes, new_driver, new_codriver}
use Rattle.unit_model.proofs.Growth.{words_later}
use Rattle.unit_model.proofs.Commits.{state_on, same_day}
use Rattle.unit_model.proofs.Numbers.{number_before, number_after, number_put4, AreShort, written_outside}
use Rattle.unit_model.proofs.Slots.{day_at, IsSlot, slot_days, slot_behind, slot_front, slot_counted}
use Rattle.unit_minutes.proofs.Besides.{before_first, before_mark, behind_mark, besides_then, besides_front, besides_days, few_slots, few_days, all_newest}
use Rattle.unit_model.proofs.Front.{HasOdometer, front_odometer, front_then}
use Rattle.unit_model.proofs.Recorded.{recorded_is}

-- how many words a minute brings
pub change_few : (s t d e : ℕ) → length (change s t d e) ≤ 1
change_few s t d e = by (d == e)
  where
    by : (b : Bool) → length (cond b [] (word_by s e t ∷ [])) ≤ 1
    by true = lit≤ tt
    by false = lit≤ tt

pub changes_few : (t d c d' c' : ℕ) → length (changes t d c d' c') ≤ 2
changes_few t d c d' c' = omega (arith, length-append (change 0 t d d') (change 1 t c c'), change_few 0 t d d', change_few 1 t c c')

pub new_few : (n next t d c d' c' : ℕ) → n ≤ 2 * next → next ≤ t → n + length (new_words next t d c d' c') ≤ 2 * (t + 1)
new_few n next t d c d' c' few le = by (next == t) refl
  where
    by : (b : Bool) → (next == t) ≡ b → n + length (cond b (changes t d c d' c') (changes next d c bare bare ++ changes t bare bare d' c')) ≤ 2 * (t + 1)
    by true is = omega (arith, changes_few t d c d' c', few, le)
    by false is =
        let isnt : next ≢ t = grind (arith, nat_tests, is) in
        omega (arith, length-append (changes next d c bare bare) (changes t bare bare d' c'), changes_few next d c bare bare, changes_few t bare bare d' c', few, le, isnt)

short_append : (a b : List ℕ) → AreShort a → AreShort b → AreShort (a ++ b)
short_append [] b left right = right
short_append (w ∷ a) b left right = (left.0, short_append a b left.1 right)

change_short : (s t d e : ℕ) → s < 2 → t < 1440 → e < 16 → AreShort (change s t d e)
change_short s t d e s1 s2 s3 = by (d == e)
  where
    by : (b : Bool) → AreShort (cond b [] (word_by s e t ∷ []))
    by true = tt
    by false = (omega arith, tt)

pub changes_short : (t d c d' c' : ℕ) → t < 1440 → d' < 16 → c' < 16 → AreShort (changes t d c d' c')
changes_short t d c d' c' low s1 s2 = short_append (change 0 t d d') (change 1 t c c') (change_short 0 t d d' (omega arith) low s1) (change_short 1 t c c' (omega arith) low s2)

pub new_short : (next t d c d' c' : ℕ) → next < 1440 → t < 1440 → d' < 16 → c' < 16 → AreShort (new_words next t d c d' c')
new_short next t d c d' c' low low' s1 s2 = by (next == t)
  where
    by : (b : Bool) → AreShort (cond b (changes t d c d' c') (changes next d c bare bare ++ changes t bare bare d' c'))
    by true = changes_short t d c d' c' low' s1 s2
    by false = short_append (changes next d c bare bare) (changes t bare bare d' c') (changes_short next d c bare bare low (omega arith) (omega arith)) (changes_short t bare bare d' c' low' s1 s2)

each_weaker : (t u : ℕ) → t ≤ u → (ws : List ℕ) → Each (λ w. word_minute w ≤ t) ws → Each (λ w. word_minute w ≤ u) ws
each_weaker t u le [] all = tt
each_weaker t u le (w ∷ ws) all = (omega (arith, all.0), each_weaker t u le ws all.1)

pub each_earlier : (d d' : ℕ) → d ≤ d' → (days : List StoredDay) → Each (λ x. day_of x < d) days → Each (λ x. day_of x < d') days
each_earlier d d' le [] all = tt
each_earlier d d' le (x ∷ xs) all = (omega (arith, all.0), each_earlier d d' le xs all.1)

module _ (j : Notes) (x : List ℕ) (noted : IsNoted j x) (coming : Coming) (fits : IsComing coming) (same : coming.minute / 1440 ≡ j.kept / 1440) (later : j.kept < coming.minute) where
  abbrev m : ℕ
  m = coming.minute

  abbrev dn : ℕ
  dn = coming.bits.driver

  abbrev cn : ℕ
  cn = coming.bits.codriver

  abbrev odometer : ℕ
  odometer = coming.odometer

  some : 0 < j.kept
  some = omega (arith, fits.low, same)

  abbrev k : ℕ
  k = j.kept

  abbrev i : ℕ
  i = j.index

  abbrev n : ℕ
  n = j.count

  abbrev js : List ℕ
  js = (noted.agrees.newest some).0

  day : IsNewestDay j x js
  day = (noted.agrees.newest some).1

  abbrev date : ℕ
  date = 86400 * (k / 1440)

  abbrev o : ℕ
  o = slot_odometer x i

  abbrev older : List StoredDay
  older = map (day_at x) js

  abbrev words : List ℕ
  words = slot_words x i n

  abbrev p : ℕ
  p = pointer day_ring x

  abbrev ws : List ℕ
  ws = new_words (k % 1440 + 1) (m % 1440) j.bits.driver j.bits.codriver dn cn

  abbrev it : UnitMinute
  it = minute_by m dn cn

  next_le : k % 1440 + 1 ≤ m % 1440
  next_le = omega arith

  few : n ≤ DAY_WORD_LIMIT
  few = omega (arith, noted.ok.count)

  words_few : n + length ws ≤ 2 * (m % 1440 + 1)
  words_few = new_few n (k % 1440 + 1) (m % 1440) j.bits.driver j.bits.codriver dn cn noted.ok.count next_le

  ws_short : AreShort ws
  ws_short = new_short (k % 1440 + 1) (m % 1440) j.bits.driver j.bits.codriver dn cn (omega (arith, next_le)) (omega arith) fits.driver fits.codriver

  date_day : date / 86400 ≡ k / 1440
  date_day = omega arith

  abbrev Slot : (last count : ℕ) → List ℕ → List ℕ → Type 0
  Slot last count all c = IsSlot i js older p last date o count all c

  slot : Slot k n words x
  slot = record { sized = noted.sized; pointer_is = refl; kept = noted.agrees.kept; order_is = day.order_is; next_is = day.next_is; older_are = refl; date_is = day.date; odometer_is = refl; count_is = day.count; words_are = refl }

  abbrev x1 : List ℕ
  x1 = with_odometer odometer x

  abbrev x2 : List ℕ
  x2 = written (free_place i n) ws x1

  abbrev x3 : List ℕ
  x3 = with_words i n ws x1

  abbrev y : List ℕ
  y = with_kept m x3

  x1_same : SameOutside ODOMETER.place ODOMETER.size x x1
  x1_same = put_outside ODOMETER.place (to_be_bytes w32 odometer) x (omega (arith, noted.sized))

  front_slot : (c : List ℕ) → SameOutside ODOMETER.place ODOMETER.size x c → Slot k n words c
  unfolding last_kept
  front_slot c same_c = slot_front i noted.ok.index js day.others older p k date o n few words x slot ODOMETER.place ODOMETER.size k c same_c (omega arith) (number_before ODOMETER.place ODOMETER.size LAST_KEPT.place LAST_KEPT.size x c same_c (omega arith) ∙ noted.agrees.kept)

  slot_1 : Slot k n words x1
  slot_1 = front_slot x1 x1_same

  slot_3 : Slot k (n + length ws) (words ++ ws) x3
  slot_3 = slot_counted i noted.ok.index js day.others older p k date o n few words x1 slot_1 ws ws_short (omega (arith, words_few))

  room : n + length ws ≤ DAY_WORD_LIMIT
  room = omega (arith, words_few)

  y_same : SameOutside LAST_KEPT.place LAST_KEPT.size x3 y
  y_same = put_outside LAST_KEPT.place (to_be_bytes w32 m) x3 (omega (arith, slot_3.sized))

  slot_y : Slot m (n + length ws) (words ++ ws) y
  unfolding last_kept
  slot_y = slot_front i noted.ok.index js day.others older p k date o (n + length ws) room (words ++ ws) x3 slot_3 LAST_KEPT.place LAST_KEPT.size m y y_same (omega arith) (number_put4 LAST_KEPT.place m x3 (omega (arith, slot_3.sized)) (omega (arith, fits.small)))

  x_recorded : recorded x ≡ days_shown k (older ++ record { date = date; odometer = o; words = words } ∷ [])
  x_recorded = recorded_is x k noted.agrees.kept ∙ ap (days_shown k) (slot_days i noted.ok.index js day.others older p k date o n few words x slot)

  same_recorded : (c : List ℕ) → Slot k n words c → recorded c ≡ recorded x
  same_recorded c at = recorded_is c k at.kept ∙ ap (days_shown k) (slot_days i noted.ok.index js day.others older p k date o n few words c at) ∙ sym x_recorded

  x_days : unit_days x ≡ older ++ record { date = date; odometer = o; words = words } ∷ []
  x_days = slot_days i noted.ok.index js day.others older p k date o n few words x slot

  same_days : (c : List ℕ) → Slot k n words c → unit_days c ≡ unit_days x
  same_days c at = slot_days i noted.ok.index js day.others older p k date o n few words c at ∙ sym x_days

  recorded_3 : recorded x3 ≡ recorded x
  recorded_3 =
      recorded_is x3 k slot_3.kept ∙ ap (days_shown k) (slot_days i noted.ok.index js day.others older p k date o (n + length ws) room (words ++ ws) x3 slot_3)
      ∙ words_later k older date o words ws date_day (new_minutes (k % 1440 + 1) (m % 1440) j.bits.driver j.bits.codriver dn cn next_le (omega arith) fits.driver fits.codriver (λ u. k % 1440 < u) (omega arith) (omega (arith, next_le)))
      ∙ sym x_recorded

  recorded_y : recorded y ≡ retained (recorded x) it
  recorded_y =
      let is : recorded y ≡ filled (recorded x) it =
      recorded_is y m slot_y.kept ∙ ap (days_shown m) (slot_days i noted.ok.index js day.others older p m date o (n + length ws) room (words ++ ws) y slot_y)
      ∙ same_day k m j.bits.driver j.bits.codriver dn cn older date o words day.earlier date_day day.low day.driver day.codriver fits.driver fits.codriver same later
      ∙ sym (ap (λ (l : List ShownDay). filled l it) x_recorded) in
      let count : length (filled (recorded x) it) ≤ DAY_SLOTS = omega (arith, ap length is, few_days y (omega (arith, slot_y.pointer_is, noted.agrees.pointer))) in
      is ∙ sym (all_newest DAY_SLOTS (filled (recorded x) it) count)

  behind : DiffersBehind i n x1 x2
  behind = written_outside (free_place i n) (DAY_WORDS.size - 2 * n) ws x1 (omega (arith, room)) (omega (arith, noted.ok.index, few, slot_1.sized))

  besides_1 : SameBesides x x1
  besides_1 = besides_front ODOMETER.place ODOMETER.size x x1 (omega arith) (omega arith) x1_same

  besides_2 : SameBesides x x2
  besides_2 = besides_then x x1 x2 besides_1 (besides_days (free_place i n) (DAY_WORDS.size - 2 * n) x1 x2 (omega arith) (omega (arith, noted.ok.index, few)) behind)

  count_same : SameOutside (slot_place i + DAY_COUNT.place) DAY_COUNT.size x2 x3
  count_same = put_outside (slot_place i + DAY_COUNT.place) (to_be_bytes w16 (n + length ws)) x2 (omega (arith, noted.ok.index, behind.same_length, slot_1.sized))

  besides_3 : SameBesides x x3
  besides_3 = besides_then x x2 x3 besides_2 (besides_days (slot_place i + DAY_COUNT.place) DAY_COUNT.size x2 x3 (omega arith) (omega (arith, noted.ok.index)) count_same)

  pub kept_last : last_kept y ≡ it.minute
  kept_last = slot_y.kept

  pub besides_y : SameBesides x y
  besides_y = besides_then x x3 y besides_3 (besides_front LAST_KEPT.place LAST_KEPT.size x3 y (omega arith) (omega arith) y_same)

  pub kept_minutes : recorded y ≡ retained (recorded x) it
  kept_minutes = recorded_y

  days_are : days_with (last_kept x) coming (unit_days x) ≡ unit_days y
  days_are =
      (λ t. days_with (noted.agrees.kept t) coming (slot_days i noted.ok.index js day.others older p k date o n few words x slot t))
      ∙ with_last k coming older (record { date = date; odometer = o; words = words })
      ∙ ap (λ (l : List StoredDay). older ++ l) (with_same k coming (record { date = date; odometer = o; words = words }) (date_day ∙ sym same)
      ∙ (λ t. record { date = date; odometer = o; words = words ++ new_words (k % 1440 + 1) (m % 1440) (day.driver t) (day.codriver t) dn cn } ∷ []))
      ∙ sym (slot_days i noted.ok.index js day.others older p m date o (n + length ws) room (words ++ ws) y slot_y)

  spare_1 : (j : ℕ) → spare_bytes x1 j ≡ spare_bytes x j
  spare_1 = spare_front ODOMETER.place ODOMETER.size x x1 (omega arith) x1_same

  spare_at : (c : List ℕ) → DiffersBehind i n x1 c → (j : ℕ) → spare_bytes c j ≡ spare_bytes x j
  spare_at c writing j = spare_behind i n x1 c few writing j ∙ spare_1 j

  spare_3 : (j : ℕ) → spare_bytes x3 j ≡ spare_bytes x j
  spare_3 j = spare_count i x2 x3 count_same j ∙ spare_at x2 behind j

  spare_y : (j : ℕ) → spare_bytes y j ≡ spare_bytes x j
  spare_y j = spare_front LAST_KEPT.place LAST_KEPT.size x3 y (omega arith) y_same j ∙ spare_3 j

  y_days : unit_days y ≡ newest_of DAY_SLOTS (days_with (last_kept x) coming (unit_days x))
  y_days = sym (ap (newest_of DAY_SLOTS) days_are ∙ newest_all DAY_SLOTS (unit_days y) (few_slots y (omega (arith, slot_y.pointer_is, noted.agrees.pointer))))

  pub kept_days : HasDays coming x y
  kept_days = record { days = y_days; spare = λ j low. inl (spare_y j) }

  -- the days before the count is written, and behind it
  unmoved : (c : List ℕ) → Slot k n words c → ((j : ℕ) → spare_bytes c j ≡ spare_bytes x j) → AreBetween coming x c
  unmoved c at spare = record { days = inl (same_days c at); side = inl (at.kept ∙ sym noted.agrees.kept); spare = λ j low. inl (spare j) }

  moved : (c : List ℕ) → unit_days c ≡ unit_days y → ((j : ℕ) → spare_bytes c j ≡ spare_bytes x j) → AreBetween coming x c
  moved c is spare = record { days = inr (inl (is ∙ y_days)); side = inr (is ∙ y_days); spare = λ j low. inl (spare j) }

  slot_2 : Slot k n words x2
  slot_2 = slot_behind i noted.ok.index js day.others older p k date o n few words x1 slot_1 x2 behind

  has_1 : HasOdometer odometer x x1
  has_1 = front_odometer odometer x noted.sized fits.odometer

  has_2 : HasOdometer odometer x x2
  has_2 = front_then odometer (free_place i n) (DAY_WORDS.size - 2 * n) x x1 x2 has_1 (omega arith) behind

  has_3 : HasOdometer odometer x x3
  has_3 = front_then odometer (slot_place i + DAY_COUNT.place) DAY_COUNT.size x x2 x3 has_2 (omega arith) count_same

  odometer_y : odometer_at y ≡ odometer
  unfolding odometer_at
  odometer_y = number_after LAST_KEPT.place LAST_KEPT.size ODOMETER.place ODOMETER.size x3 y y_same (omega arith) ∙ has_3.odometer_is

  good_1 : IsGood x → IsGood x1
  good_1 = put_odometer_good odometer x noted.sized fits.odometer

  good_2 : IsGood x → IsGood x2
  good_2 good = behind_good x1 x2 i n noted.ok.index few behind slot_1.count_is (good_1 good)

  good_3 : IsGood x → IsGood x3
  good_3 good =
      let last = last_day x js i noted.ok.index day.order_is good in
      let place : ℕ = slot_place i + DAY_WORDS.place in
      let two : 2 ≤ n = omega (arith, last.low, day.count) in
      let checks : list_all passes (word_checks place [] words) ≡ true = ap (λ (a : ℕ). list_all passes (word_checks place [] (slot_words x i a))) (sym day.count) ∙ last.words in
      let length_is : length words ≡ n = length-map-range_with_len (λ a. number_at x (place + 2 * a) 2) 0 n in
      counted_good x2 x3 i noted.ok.index count_same (n + length ws) slot_3.count_is (omega (arith, two)) room
      (ap (λ (l : List ℕ). list_all passes (word_checks place [] l)) slot_3.words_are
      ∙ new_good place (k % 1440) (k % 1440 + 1) (m % 1440) j.bits.driver j.bits.codriver dn cn words (omega arith) next_le (omega arith) fits.driver fits.codriver checks (omega (arith, two, length_is)) day.low) (good_2 good)

  pub good_y : IsGood x → IsGood y
  good_y good = day_good x3 y y_same (omega (arith, slot_3.kept, some)) (omega (arith, slot_3.kept, slot_y.kept, later)) (ap (λ (a : ℕ). a / 1440) slot_y.kept ∙ same ∙ sym (ap (λ (a : ℕ). a / 1440) slot_3.kept)) (omega (arith, slot_y.kept, fits.small)) (good_3 good)

  pub kept_decodes : Decodes x → Decodes y
  kept_decodes = still x y good_y

  abbrev Moment : List ℕ → Type 0
  Moment c = IsKeeping it odometer x c × AreBetween coming x c

  at_2 : Moment x2
  at_2 = (record { side = before_mark it odometer x x2 has_2 (inl (same_recorded x2 slot_2)); outside = besides_2; decodes = still x x2 good_2 }, unmoved x2 slot_2 (spare_at x2 behind))

  at_3 : Moment x3
  at_3 = (
    record { side = before_mark it odometer x x3 has_3 (inl recorded_3); outside = besides_3; decodes = still x x3 good_3 },
    moved x3 (slot_days i noted.ok.index js day.others older p k date o (n + length ws) room (words ++ ws) x3 slot_3 ∙ sym (slot_days i noted.ok.index js day.others older p m date o (n + length ws) room (words ++ ws) y slot_y)) spare_3,
  )

  at_y : Moment y
  at_y = (record { side = behind_mark it odometer x y slot_y.kept odometer_y recorded_y; outside = besides_y; decodes = kept_decodes }, moved y refl spare_y)

  counting_moment : (c : List ℕ) → DiffersBehind i n x1 c ⊎ IsPartlyWritten (slot_place i + DAY_COUNT.place) (to_be_bytes w16 (n + length ws)) x2 c → Moment c
  counting_moment c (inl writing) =
      let at : Slot k n words c = slot_behind i noted.ok.index js day.others older p k date o n few words x1 slot_1 c writing in (
        record {
          side = before_mark it odometer x c (front_then odometer (free_place i n) (DAY_WORDS.size - 2 * n) x x1 c has_1 (omega arith) writing) (inl (same_recorded c at));
          outside = besides_then x x1 c besides_1 (besides_days (free_place i n) (DAY_WORDS.size - 2 * n) x1 c (omega arith) (omega (arith, noted.ok.index, few)) writing);
          decodes = still x c (λ good. behind_good x1 c i n noted.ok.index few writing slot_1.count_is (good_1 good));
        },
        unmoved c at (spare_at c writing),
      )
  counting_moment c (inr counting) = ⊎_elim (λ absent. subst Moment (sym absent) at_2) (λ whole. subst Moment (sym whole) at_3) (counting.whole (lit≤ tt))

  mark_moment : (c : List ℕ) → IsPartway (mark m) x3 c → Moment c
  mark_moment c (inl keeping) = ⊎_elim (λ absent. subst Moment (sym absent) at_3) (λ whole. subst Moment (sym whole) at_y) (keeping.whole (lit≤ tt))
  mark_moment c (inr none) = absurd none

  pub gone_is : put_all (going j coming) x ≡ y
  gone_is = put_all-append (counted i n ws) (mark m) x1 ∙ ap (with_kept m) (counted_put i n ws x1)

  pub moments : (c : List ℕ) → IsPartway (going j coming) x c → Moment c
  moments c (inl first) = (
    record {
      side = ⊎_elim
          (λ absent. before_first it odometer x c (ap last_kept absent, ap odometer_at absent) (same_recorded c (front_slot c first.outside)))
          (λ whole. before_mark it odometer x c (subst (HasOdometer odometer x) (sym whole) has_1) (inl (same_recorded c (front_slot c first.outside))))
          (first.whole (lit≤ tt));
      outside = besides_front ODOMETER.place ODOMETER.size x c (omega arith) (omega arith) first.outside;
      decodes = odometer_decodes odometer x c noted.sized fits.odometer first;
    },
    unmoved c (front_slot c first.outside) (spare_front ODOMETER.place ODOMETER.size x c (omega arith) first.outside),
  )
  moments c (inr rest) = ⊎_elim
      (λ part. counting_moment c (counted_moment i n ws x1 c noted.ok.index room slot_1.sized part))
      (λ part. mark_moment c (subst (λ (z : List ℕ). IsPartway (mark m) z c) (counted_put i n ws x1) part))
      (partway_either (counted i n ws) (mark m) x1 c rest)

  abbrev j' : Notes
  j' = notes_on j coming

  pub new_agrees : Agrees j' y
  unfolding odometer_at
  new_agrees = record {
    kept = slot_y.kept;
    odometer = odometer_y;
    pointer = omega (arith, slot_y.pointer_is, noted.agrees.pointer);
    none = λ zero_kept. absurd (omega arith);
    newest = λ any. (
      js,
      record {
        order_is = slot_y.order_is;
        next_is = slot_y.next_is;
        dense = day.dense;
        others = day.others;
        days = day.days;
        earlier = subst (Each (λ d. day_of d < m / 1440)) (sym slot_y.older_are) (each_earlier (k / 1440) (m / 1440) (omega arith) older day.earlier);
        date = slot_y.date_is ∙ ap (λ (d : ℕ). 86400 * d) (sym same);
        few = room;
        count = slot_y.count_is;
        low = subst (Each (λ w. word_minute w ≤ m % 1440)) (sym slot_y.words_are) (each_append (λ w. word_minute w ≤ m % 1440) words ws (each_weaker (k % 1440) (m % 1440) (omega (arith, next_le)) words day.low) (new_minutes (k % 1440 + 1) (m % 1440) j.bits.driver j.bits.codriver dn cn next_le (omega arith) fits.driver fits.codriver (λ u. u ≤ m % 1440) next_le (omega arith)));
        driver = ap (state_at 0 (m % 1440)) slot_y.words_are ∙ state_on 0 (k % 1440) j.bits.driver (m % 1440) words ws day.low day.driver (omega (arith, next_le)) ∙ new_driver (k % 1440 + 1) (m % 1440) j.bits.driver j.bits.codriver dn cn next_le (omega arith) fits.driver fits.codriver;
        codriver = ap (state_at 1 (m % 1440)) slot_y.words_are ∙ state_on 1 (k % 1440) j.bits.codriver (m % 1440) words ws day.low day.codriver (omega (arith, next_le)) ∙ new_codriver (k % 1440 + 1) (m % 1440) j.bits.driver j.bits.codriver dn cn next_le (omega arith) fits.driver fits.codriver;
      },
    );
  }
