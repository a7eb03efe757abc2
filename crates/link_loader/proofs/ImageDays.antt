-- The days that a unit sends, of an image that decodes: they follow one another, and their fields are in range.
use Rattle.std.proofs.Common.{◌≡◌, ℕ, ◌+◌, ◌*◌, ◌/◌, ◌%◌, ◌^◌, ◌<◌, ◌≤◌, min, Bool, true, false, not, cond, List, [], ◌∷◌, ◌++◌, length, map, filter, All, ⊎_elim, refl, sym, ◌∙◌, ap, subst, arith}
use Rattle.std.specs.Prelude.{◌==◌, ◌&&◌, nat_le, nat_lt}
use Rattle.std.specs.List.{list_all, range_with_len}
use Rattle.std.proofs.lemmas.Bool.{cases_lt}
use Rattle.std.proofs.lemmas.Bool.Decides.{nat_tests}
use Rattle.std.proofs.lemmas.List.Elements.{All-nil, All-cons, All-head, All-tail, All-filter}
use Rattle.std.proofs.lemmas.List.FromFn.{length-map-range_with_len}
use Rattle.card_layout.specs.Images.{number_at}
use Rattle.card_layout.specs.Fields.{IsBytes}
use Rattle.gated_ring.specs.Ring.{is_there}
use Rattle.unit_model.specs.Days.{StoredDay, slot_bit, word_minute, day_of, Each}
use Rattle.unit_model.specs.Image.{last_kept, day_ring, slot_place, slot_date, slot_odometer, slot_count, slot_words, covered_words, recorded_words, recorded_indices}
use Rattle.unit_model.specs.Decoding.{Decodes, day_checks, word_checks, is_word_good, is_first_good, indices_before}
use Rattle.unit_model.proofs.Checks.{passes, and_split, le_of, good_of}
use Rattle.unit_model.proofs.StillDecodes.{DayPasses, day_split}
use Rattle.unit_model.proofs.Decoded.{IsDecoded}
use Rattle.unit_model.proofs.Finding.{dated}
use Rattle.unit_model.proofs.Rising.{AreInOrder}
use Rattle.unit_model.proofs.Recorded.{date_in, there_is, recorded_length}
use Rattle.unit_model.proofs.Slots.{day_at}
use Rattle.unit_model.proofs.WholeDays.{decoded_of, dates_whole}
use Rattle.unit_model.proofs.LastDay.{in_order, none_shown}
use Rattle.message_model.specs.Sending.{Follow, sent_days}
use Rattle.unit_messages.proofs.SentDays.{sent_at, sent_are, recorded_good, counts_few}
use Rattle.link_loader.specs.Talking.{AreDays}
use Rattle.link_loader.proofs.ImageParts.{IsShort, number_low, words_low, filter_few}

above_none : (n : ℕ) → not (n == 0) ≡ true → 0 < n
above_none n is = grind (arith, nat_tests)

below_of : (a b : ℕ) → nat_lt a b ≡ true → a < b
below_of a b is = grind (arith, nat_tests)

-- a word as the grammar wants it
abbrev pub IsWord : ℕ → Type 0
IsWord w = (w < 2 ^ 16) × (word_minute w < 1440)

-- words that pass their checks are such
words_good : (place : ℕ) (before ws : List ℕ) → list_all passes (word_checks place before ws) ≡ true → All IsShort ws → All IsWord ws
words_good place before [] all short = All-nil IsWord
words_good place before (w ∷ ws) all short =
    let both = and_split (is_word_good before w) (list_all passes (word_checks (place + 2) (before ++ w ∷ []) ws)) all in
    let rest : Bool = list_all (λ v. nat_le (word_minute v) (word_minute w) && not (slot_bit v == slot_bit w && word_minute v == word_minute w)) before && is_first_good (length before) w in
    let low = and_split (nat_lt (word_minute w) 1440) rest both.0 in
    All-cons IsWord w ws (All-head IsShort w ws short, below_of (word_minute w) 1440 low.0) (words_good (place + 2) (before ++ w ∷ []) ws both.1 (All-tail IsShort w ws short))

-- days of slots: each begins at a day's first second, by the minute's end
are_days : (x : List ℕ) (k : ℕ) (js : List ℕ) → Each (λ i. slot_date x i % 86400 ≡ 0) js → Each (λ d. day_of d ≤ k / 1440) (map (day_at x) js) → AreDays (60 * k) (map (sent_at x) js)
are_days x k [] whole low = tt
are_days x k (j ∷ js) whole low = (whole.0, omega (arith, whole.0, low.0, date_in x j), are_days x k js whole.1 low.1)

-- and each is later than the one before it
follow_on : (x : List ℕ) (j : ℕ) (js : List ℕ) → AreInOrder (map (day_at x) (j ∷ js)) → Follow (slot_date x j) (map (sent_at x) js)
follow_on x j [] order = tt
follow_on x j (k ∷ js) order = (omega (arith, order.0, date_in x j, date_in x k), follow_on x k js order.1)

follow_all : (x : List ℕ) (js : List ℕ) → Each (λ i. 0 < slot_date x i) js → AreInOrder (map (day_at x) js) → Follow 0 (map (sent_at x) js)
follow_all x [] some order = tt
follow_all x (j ∷ js) some order = (some.0, follow_on x j js order)

module _ (x : List ℕ) (decodes : Decodes x) where
  pub ok : IsDecoded x
  ok = decoded_of x decodes

  pub sent_is : sent_days x ≡ map (sent_at x) (recorded_indices x)
  sent_is = sent_are x (counts_few x ok)

  some_dates : Each (λ i. 0 < slot_date x i) (recorded_indices x)
  some_dates = recorded_good (λ i. 0 < slot_date x i) x ok (λ i below there. above_none (slot_date x i) (sym (there_is x i) ∙ there))

  abbrev AreGood : List StoredDay → Type 0
  AreGood ds = Follow 0 ds × AreDays (60 * last_kept x) ds

  none_good : (js : List ℕ) → length js ≡ 0 → AreGood (map (sent_at x) js)
  none_good [] none = (tt, tt)
  none_good (j ∷ js) none = absurd (omega (arith, none))

  pub days_good : Follow 0 (sent_days x) × AreDays (60 * last_kept x) (sent_days x)
  days_good = subst AreGood (sym sent_is) (⊎_elim kept unkept (cases_lt 0 (last_kept x)))
    where
      kept : 0 < last_kept x → AreGood (map (sent_at x) (recorded_indices x))
      kept some =
          let order = in_order x ok some in
          (follow_all x (recorded_indices x) some_dates order.0, are_days x (last_kept x) (recorded_indices x) (dates_whole x ok) order.1)

      unkept : last_kept x ≤ 0 → AreGood (map (sent_at x) (recorded_indices x))
      unkept first =
          let none : last_kept x ≡ 0 = omega (arith, first) in
          none_good (recorded_indices x) (sym (recorded_length x) ∙ ap length (none_shown x decodes none))

  -- the fields of a slot that is there, in an image of bytes
  pub record IsSent (i : ℕ) : Type 0 where
    pub date : (slot_date x i < 2 ^ 32) × (slot_date x i % 86400 ≡ 0)
    pub odometer : slot_odometer x i < 2 ^ 24
    pub few : length (recorded_words x i) ≤ 2880
    pub words : All IsWord (recorded_words x i)

  -- a word of the last-kept minute's day that is not later
  abbrev counts : ℕ → Bool
  counts w = nat_le (word_minute w) (last_kept x % 1440)

  pub sent_good : IsBytes x → (i : ℕ) → i < 366 → is_there day_ring x i ≡ true → IsSent i
  sent_good bytes i below there =
      let all : list_all passes (day_checks x i) ≡ true = sym (ap (λ (b : Bool). list_all passes (cond b (day_checks x i) [])) there) ∙ (good_of x decodes).slots i below in
      let day : DayPasses x i = day_split x i all in
      let many : min (slot_count x i) 2880 ≡ slot_count x i = omega (arith, day.high) in
      let own = words_good (slot_place i + 16) [] (slot_words x i (slot_count x i)) day.words (words_low x (slot_place i + 16) 0 (slot_count x i) bytes) in
      let covered : All IsWord (covered_words x i) = subst (λ (n : ℕ). All IsWord (slot_words x i n)) (sym many) own in
      let low : slot_odometer x i ≤ 9999999 = le_of (slot_odometer x i) 9999999 day.odometer in
      let odometer : slot_odometer x i < 16777216 = omega (arith, low) in
      record {
        date = (number_low x (slot_place i) 4 bytes, (dated x ok i (indices_before x i) below there refl).whole);
        odometer = odometer;
        few = few (slot_date x i / 86400 == last_kept x / 1440);
        words = good covered (slot_date x i / 86400 == last_kept x / 1440);
      }
    where
      long : length (covered_words x i) ≤ 2880
      long =
          let n = min (slot_count x i) 2880 in
          let is : length (map (λ j. number_at x (slot_place i + 16 + 2 * j) 2) (range_with_len 0 n)) ≤ 2880 = omega (arith, length-map-range_with_len (λ j. number_at x (slot_place i + 16 + 2 * j) 2) 0 n) in
          is

      few : (b : Bool) → length (cond b (filter counts (covered_words x i)) (covered_words x i)) ≤ 2880
      few true = omega (arith, long, filter_few counts (covered_words x i))
      few false = long

      good : All IsWord (covered_words x i) → (b : Bool) → All IsWord (cond b (filter counts (covered_words x i)) (covered_words x i))
      good all true = All-filter counts IsWord (covered_words x i) all
      good all false = all
