-- An image that decodes still does at each moment of a `mend`.
use Rattle.std.proofs.Common.{◌≡◌, ◌≢◌, inl, inr, ⊎_elim, ℕ, ◌+◌, ◌-◌, ◌*◌, ◌/◌, ◌<◌, ◌≤◌, Bool, true, false, not, cond, List, [], ◌∷◌, ◌++◌, length, map, filter, refl, sym, ◌∙◌, ap, arith}
use Rattle.std.specs.Prelude.{◌⊎◌, ◌==◌, ◌&&◌, ◌||◌, nat_le, nat_lt}
use Rattle.std.specs.List.{list_all, list_any, range_with_len}
use Rattle.std.proofs.lemmas.Bool.Decides.{nat_tests}
use Rattle.std.proofs.lemmas.Bool.{cases_lt, cases_eq}
use Rattle.std.proofs.lemmas.List.{length-map}
use Rattle.std.proofs.lemmas.List.FromFn.{length-map-range_with_len}
use Rattle.gated_ring.specs.tach_media.Medium.{SameOutside}
use Rattle.gated_ring.proofs.tach_media.Images.{outside_wider}
use Rattle.gated_ring.specs.Ring.{number_at, pointer, is_there, next, order}
use Rattle.gated_ring.proofs.Orders as orders
use Rattle.gated_ring.proofs.Orders.{rest, rest_others, order_last, each_append, each_weaker, each_filter, range_each, filter_same, map_same}
use Rattle.unit_model.specs.declared.layout.TheConstants.{DAYS, DAY_COUNT, DAY_SLOTS, DAY_SLOT_SIZE, DAY_WORDS, DAY_WORD_LIMIT, HIGHEST_ODOMETER, INSERTIONS, LAST_KEPT, ODOMETER, OVER_COUNT, OWED, PLACES, RULE_BYTE, SPARE_ROWS, SPEEDS}
use Rattle.unit_model.specs.Days.{slot_bit, word_minute, Each}
use Rattle.unit_model.specs.Image.{last_kept, odometer_at, day_ring, slot_place, indices, slot_date, slot_odometer, slot_count, slot_words, words_at}
use Rattle.unit_model.specs.Decoding.{check, cell_place, cell_minute, cell_word, cell_check, slot_checks, slot_day, has_day, is_pointer_good, is_last_good, are_dense, indices_before, is_date_good, is_filled_on, is_word_good, is_first_good, day_checks, word_checks}
use Rattle.unit_model.proofs.Words.{words_split}
use Rattle.unit_model.proofs.Numbers.{number_before, number_after, words_before, words_after}
use Rattle.unit_model.proofs.Slots.{SameButOne, in_front, in_slot}
use Rattle.unit_model.proofs.Checks.{passes, le_true, le_of, and_split, and_join, IsGood, front_still, rings_still}

-- images with the same last-kept minute, pointer and dates
pub record SameDates (x c : List ℕ) : Type 0 where
  pub kept : last_kept c ≡ last_kept x
  pub pointer_is : pointer day_ring c ≡ pointer day_ring x
  pub there : (i : ℕ) → is_there day_ring c i ≡ is_there day_ring x i
  pub date : (i : ℕ) → slot_date c i ≡ slot_date x i

module _ (x c : List ℕ) (same : SameDates x c) where
  pub same_day : (day : ℕ) → has_day c day ≡ has_day x day
  same_day day = λ t. list_any (λ i. same.there i t && same.date i t / 86400 == day) (range_with_len 0 DAY_SLOTS)

  last_same : (p : ℕ) (js : List ℕ) → is_last_good c p js ≡ is_last_good x p js
  last_same p [] = refl
  last_same p (i ∷ []) = λ t. nat_le (same.date i t / 86400) (same.kept t / 1440) || i == p
  last_same p (i ∷ j ∷ js) = last_same p (j ∷ js)

  all_same : indices c ≡ indices x
  unfolding indices Rattle.gated_ring.specs.Ring.indices
  all_same = λ t. filter (λ i. same.there i t) (order day_ring (next day_ring (same.pointer_is t)))

  last_is : is_last_good c (pointer day_ring c) (indices c) ≡ is_last_good x (pointer day_ring x) (indices x)
  last_is = (λ t. is_last_good c (same.pointer_is t) (all_same t)) ∙ last_same (pointer day_ring x) (indices x)

  pub same_point : is_pointer_good c ≡ is_pointer_good x
  same_point = λ t. nat_lt (same.pointer_is t) DAY_SLOTS && (are_dense (map (λ i. same.there i t) (order day_ring (next day_ring (same.pointer_is t)))) && last_is t)

  same_before : (i : ℕ) → map (slot_date c) (indices_before c i) ≡ map (slot_date x) (indices_before x i)
  same_before i = λ t.
      let q : ℕ = same.pointer_is t + 1 in
      map (λ j. same.date j t) (filter (λ j. same.there j t) (cond (nat_le q i) (range_with_len q (i - q)) (range_with_len q (DAY_SLOTS - q) ++ range_with_len 0 i)))

  pub date_good : (i : ℕ) → is_date_good (last_kept c) (map (slot_date c) (indices_before c i)) (slot_date c i) ≡ is_date_good (last_kept x) (map (slot_date x) (indices_before x i)) (slot_date x i)
  date_good i = λ t. is_date_good (same.kept t) (same_before i t) (same.date i t)

-- the checks of a slot whose date is as good as before, and whose other fields are the same
pub slot_same : (x c : List ℕ) (i : ℕ) → is_there day_ring c i ≡ is_there day_ring x i
    → is_date_good (last_kept c) (map (slot_date c) (indices_before c i)) (slot_date c i) ≡ is_date_good (last_kept x) (map (slot_date x) (indices_before x i)) (slot_date x i)
    → slot_odometer c i ≡ slot_odometer x i → slot_count c i ≡ slot_count x i → slot_words c i (slot_count x i) ≡ slot_words x i (slot_count x i)
    → slot_checks c i ≡ slot_checks x i
slot_same x c i there date odometer count words =
    let p : ℕ = slot_place i in
    (λ t. cond (there t) (check p (date t) ∷ check (p + 4) (nat_le (odometer t) HIGHEST_ODOMETER) ∷ check (p + 8) (nat_le 2 (count t) && nat_le (count t) DAY_WORD_LIMIT) ∷ word_checks (p + 16) [] (slot_words c i (count t))) [])
    ∙ (λ t. cond (is_there day_ring x i) (check p (is_date_good (last_kept x) (map (slot_date x) (indices_before x i)) (slot_date x i)) ∷ check (p + 4) (nat_le (slot_odometer x i) HIGHEST_ODOMETER) ∷ check (p + 8) (nat_le 2 (slot_count x i) && nat_le (slot_count x i) DAY_WORD_LIMIT) ∷ word_checks (p + 16) [] (words t)) [])

-- writes in the owed rows whose cells pass
module _ (x c : List ℕ) (same : SameOutside OWED.place OWED.size x c) (cells : (n : ℕ) → n < 32 → (cell_check x n).passes ≡ true → (cell_check c n).passes ≡ true) where
  but : SameButOne 0 x c
  but = in_front 0 OWED.place OWED.size x c (omega arith) same

  behind : (a n : ℕ) → SPARE_ROWS.place ≤ a → number_at c a n ≡ number_at x a n
  behind a n le = number_after OWED.place OWED.size a n x c same (omega (arith, le))

  dates : SameDates x c
  unfolding last_kept
  dates = record {
    kept = number_before OWED.place OWED.size LAST_KEPT.place LAST_KEPT.size x c same (omega arith);
    pointer_is = but.pointer_is;
    there = but.there;
    date = λ i. behind (slot_place i) 4 (omega arith);
  }

  pub rows_pass : IsGood x → IsGood c
  unfolding odometer_at
  rows_pass good = record {
    front = front_still x c (number_before OWED.place OWED.size 0 4 x c same (omega arith), number_before OWED.place OWED.size RULE_BYTE.place RULE_BYTE.size x c same (omega arith)) dates.kept (number_before OWED.place OWED.size ODOMETER.place ODOMETER.size x c same (omega arith)) (number_before OWED.place OWED.size OVER_COUNT.place OVER_COUNT.size x c same (omega arith))
        (λ there. same_day x c dates (last_kept x / 1440) ∙ there) good.front;
    cells = λ n below. cells n below (good.cells n below);
    point = same_point x c dates ∙ good.point;
    slots = λ i below.
        let p : ℕ = slot_place i in
        ap (list_all passes) (slot_same x c i (but.there i) (date_good x c dates i) (behind (p + 4) 4 (omega arith)) (behind (p + 8) 2 (omega arith)) (words_after OWED.place OWED.size (p + 16) (slot_count x i) x c same (omega arith))) ∙ good.slots i below;
    rings = rings_still x c (behind INSERTIONS.place 4 (omega arith)) (behind PLACES.place 4 (omega arith)) (behind SPEEDS.place 4 (omega arith)) good.rings;
  }

-- writes in the owed rows that leave the words of cells, and empty cells or leave them
module _ (x c : List ℕ) (same : SameOutside OWED.place OWED.size x c) (words : (n : ℕ) → cell_word c n ≡ cell_word x n) (minutes : (n : ℕ) → n < 32 → (cell_minute c n ≡ 0) ⊎ (cell_minute c n ≡ cell_minute x n)) where
  cell_good : (n : ℕ) → n < 32 → (cell_check x n).passes ≡ true → (cell_check c n).passes ≡ true
  cell_good n below good = ⊎_elim
      (λ empty. ap (λ (m : ℕ). m == 0 || nat_lt (word_minute (cell_word c n)) 1440) empty)
      (λ as_before. (λ t. as_before t == 0 || nat_lt (word_minute (words n t)) 1440) ∙ good)
      (minutes n below)

  pub rows_good : IsGood x → IsGood c
  rows_good = rows_pass x c same cell_good

-- the checks of a slot that is there
pub record DayPasses (x : List ℕ) (i : ℕ) : Type 0 where
  pub date : is_date_good (last_kept x) (map (slot_date x) (indices_before x i)) (slot_date x i) ≡ true
  pub odometer : nat_le (slot_odometer x i) HIGHEST_ODOMETER ≡ true
  pub low : 2 ≤ slot_count x i
  pub high : slot_count x i ≤ DAY_WORD_LIMIT
  pub words : list_all passes (word_checks (slot_place i + DAY_WORDS.place) [] (slot_words x i (slot_count x i))) ≡ true

eq_of : (a b : ℕ) → (a == b) ≡ true → a ≡ b
eq_of a b is = grind (arith, nat_tests)

pub day_split : (x : List ℕ) (i : ℕ) → list_all passes (day_checks x i) ≡ true → DayPasses x i
day_split x i all =
    let n : ℕ = slot_count x i in
    let words : Bool = list_all passes (word_checks (slot_place i + DAY_WORDS.place) [] (slot_words x i n)) in
    let date = and_split (is_date_good (last_kept x) (map (slot_date x) (indices_before x i)) (slot_date x i)) (nat_le (slot_odometer x i) HIGHEST_ODOMETER && ((nat_le 2 n && nat_le n DAY_WORD_LIMIT) && words)) all in
    let odometer = and_split (nat_le (slot_odometer x i) HIGHEST_ODOMETER) ((nat_le 2 n && nat_le n DAY_WORD_LIMIT) && words) date.1 in
    let count = and_split (nat_le 2 n && nat_le n DAY_WORD_LIMIT) words odometer.1 in
    let range = and_split (nat_le 2 n) (nat_le n DAY_WORD_LIMIT) count.0 in
    record { date = date.0; odometer = odometer.0; low = le_of 2 n range.0; high = le_of n DAY_WORD_LIMIT range.1; words = count.1 }

pub day_join : (x : List ℕ) (i : ℕ) → DayPasses x i → list_all passes (day_checks x i) ≡ true
day_join x i day =
    let n : ℕ = slot_count x i in
    let words : Bool = list_all passes (word_checks (slot_place i + DAY_WORDS.place) [] (slot_words x i n)) in
    and_join (is_date_good (last_kept x) (map (slot_date x) (indices_before x i)) (slot_date x i)) (nat_le (slot_odometer x i) HIGHEST_ODOMETER && ((nat_le 2 n && nat_le n DAY_WORD_LIMIT) && words)) day.date
    (and_join (nat_le (slot_odometer x i) HIGHEST_ODOMETER) ((nat_le 2 n && nat_le n DAY_WORD_LIMIT) && words) day.odometer
    (and_join (nat_le 2 n && nat_le n DAY_WORD_LIMIT) words (and_join (nat_le 2 n) (nat_le n DAY_WORD_LIMIT) (le_true 2 n day.low) (le_true n DAY_WORD_LIMIT day.high)) day.words))

pub slot_by : (x c : List ℕ) (i : ℕ) → is_there day_ring c i ≡ is_there day_ring x i → (DayPasses x i → DayPasses c i) → list_all passes (slot_checks x i) ≡ true → list_all passes (slot_checks c i) ≡ true
slot_by x c i there day all = by (is_there day_ring x i) refl
  where
    by : (b : Bool) → is_there day_ring x i ≡ b → list_all passes (slot_checks c i) ≡ true
    by true on =
        ap (λ (b : Bool). list_all passes (cond b (day_checks c i) [])) (there ∙ on)
        ∙ day_join c i (day (day_split x i (sym (ap (λ (b : Bool). list_all passes (cond b (day_checks x i) [])) on) ∙ all)))
    by false off = ap (λ (b : Bool). list_all passes (cond b (day_checks c i) [])) (there ∙ off)

-- a day of which nothing has changed
pub day_still : (x c : List ℕ) (i : ℕ)
    → is_date_good (last_kept c) (map (slot_date c) (indices_before c i)) (slot_date c i) ≡ is_date_good (last_kept x) (map (slot_date x) (indices_before x i)) (slot_date x i)
    → slot_odometer c i ≡ slot_odometer x i → slot_count c i ≡ slot_count x i → (slot_count x i ≤ DAY_WORD_LIMIT → slot_words c i (slot_count x i) ≡ slot_words x i (slot_count x i)) → DayPasses x i → DayPasses c i
day_still x c i date odometer count words day = record {
  date = date ∙ day.date;
  odometer = ap (λ (n : ℕ). nat_le n HIGHEST_ODOMETER) odometer ∙ day.odometer;
  low = omega (arith, count, day.low);
  high = omega (arith, count, day.high);
  words = ap (λ (n : ℕ). list_all passes (word_checks (slot_place i + DAY_WORDS.place) [] (slot_words c i n))) count
      ∙ ap (λ (ws : List ℕ). list_all passes (word_checks (slot_place i + DAY_WORDS.place) [] ws)) (words day.high) ∙ day.words;
}

-- writes in the day slots
module _ (x c : List ℕ) (same : SameOutside (slot_place 0) (DAYS.size - 4) x c) where
  out_front : (a n : ℕ) → a + n ≤ (slot_place 0) → number_at c a n ≡ number_at x a n
  out_front a n le = number_before (slot_place 0) (DAYS.size - 4) a n x c same le

  out_behind : (a n : ℕ) → INSERTIONS.place ≤ a → number_at c a n ≡ number_at x a n
  out_behind a n le = number_after (slot_place 0) (DAYS.size - 4) a n x c same le

  out_cell : (n : ℕ) → n < 32 → (cell_check c n).passes ≡ (cell_check x n).passes
  out_cell n below = λ t. out_front (cell_place n) 4 (omega (arith, below)) t == 0 || nat_lt (word_minute (out_front (cell_place n + 4) 2 (omega (arith, below)) t)) 1440

  pub out_good : (has_day x (last_kept x / 1440) ≡ true → has_day c (last_kept x / 1440) ≡ true) → is_pointer_good c ≡ true → ((i : ℕ) → i < DAY_SLOTS → list_all passes (slot_checks c i) ≡ true) → IsGood x → IsGood c
  unfolding last_kept odometer_at
  out_good today point slots good = record {
    front = front_still x c (out_front 0 4 (omega arith), out_front RULE_BYTE.place RULE_BYTE.size (omega arith)) (out_front LAST_KEPT.place LAST_KEPT.size (omega arith)) (out_front ODOMETER.place ODOMETER.size (omega arith)) (out_front OVER_COUNT.place OVER_COUNT.size (omega arith)) today good.front;
    cells = λ n below. out_cell n below ∙ good.cells n below;
    point = point;
    slots = slots;
    rings = rings_still x c (out_behind INSERTIONS.place 4 (omega arith)) (out_behind PLACES.place 4 (omega arith)) (out_behind SPEEDS.place 4 (omega arith)) good.rings;
  }

-- words in front of others are as good without these
checks_front : (place : ℕ) (before a b : List ℕ) → list_all passes (word_checks place before (a ++ b)) ≡ true → list_all passes (word_checks place before a) ≡ true
checks_front place before [] b all = refl
checks_front place before (w ∷ a) b all =
    let both = and_split (is_word_good before w) (list_all passes (word_checks (place + 2) (before ++ w ∷ []) (a ++ b))) all in
    and_join (is_word_good before w) (list_all passes (word_checks (place + 2) (before ++ w ∷ []) a)) both.0 (checks_front (place + 2) (before ++ w ∷ []) a b both.1)

-- the first two words of a day are never later
not_first : (before : List ℕ) (k place w : ℕ) → nat_lt 1 (length before) ≡ false → length before ≡ place → is_word_good before w ≡ true → k < word_minute w → ⊥
not_first before k place w first at good late =
    let small = and_split (nat_lt (word_minute w) 1440) (list_all (λ v. nat_le (word_minute v) (word_minute w) && not (slot_bit v == slot_bit w && word_minute v == word_minute w)) before && is_first_good (length before) w) good in
    let rest = and_split (list_all (λ v. nat_le (word_minute v) (word_minute w) && not (slot_bit v == slot_bit w && word_minute v == word_minute w)) before) (is_first_good (length before) w) small.1 in
    let is : (slot_bit w == length before && word_minute w == 0) ≡ true = sym (ap (λ (b : Bool). cond b true (slot_bit w == length before && word_minute w == 0)) first) ∙ rest.1 in
    let none : word_minute w ≡ 0 = eq_of (word_minute w) 0 (and_split (slot_bit w == length before) (word_minute w == 0) is).1 in
    absurd (omega (arith, none, late))

two_first : (place k : ℕ) (a b : List ℕ) → list_all passes (word_checks place [] (a ++ b)) ≡ true → Each (λ w. k < word_minute w) b → 2 ≤ length a + length b → 2 ≤ length a
two_first place k (u ∷ v ∷ a) b all late some = omega arith
two_first place k [] [] all late some = absurd (omega (arith, some))
two_first place k [] (w ∷ b) all late some = absurd (not_first [] k 0 w refl refl (and_split (is_word_good [] w) (list_all passes (word_checks (place + 2) (w ∷ []) b)) all).0 late.0)
two_first place k (u ∷ []) [] all late some = absurd (omega (arith, some))
two_first place k (u ∷ []) (w ∷ b) all late some =
    let rest = (and_split (is_word_good [] u) (list_all passes (word_checks (place + 2) (u ∷ []) (w ∷ b))) all).1 in
    absurd (not_first (u ∷ []) k 1 w refl refl (and_split (is_word_good (u ∷ []) w) (list_all passes (word_checks (place + 2 + 2) (u ∷ w ∷ []) b)) rest).0 late.0)

-- a write of a slot's count
module _ (x c : List ℕ) (i : ℕ) (below : i < DAY_SLOTS) (same : SameOutside (slot_place i + DAY_COUNT.place) 2 x c) where
  abbrev q : ℕ
  q = slot_place i + DAY_COUNT.place

  count_but : SameButOne i x c
  count_but = in_slot i q 2 x c (omega arith) (omega arith) same

  count_elsewhere : (j a m : ℕ) → j ≢ i → a + m ≤ DAY_SLOT_SIZE → number_at c (slot_place j + a) m ≡ number_at x (slot_place j + a) m
  count_elsewhere j a m other le = ⊎_elim
      (λ less. number_before q 2 (slot_place j + a) m x c same (omega (arith, less, le)))
      (λ more. let greater : i < j = omega (arith, more, other) in number_after q 2 (slot_place j + a) m x c same (omega (arith, greater)))
      (cases_lt j i)

  count_words : (j m : ℕ) → j ≢ i → m ≤ DAY_WORD_LIMIT → slot_words c j m ≡ slot_words x j m
  count_words j m other le = ⊎_elim
      (λ less. words_before q 2 (slot_place j + DAY_WORDS.place) m x c same (omega (arith, less, le)))
      (λ more. let greater : i < j = omega (arith, more, other) in words_after q 2 (slot_place j + DAY_WORDS.place) m x c same (omega (arith, greater)))
      (cases_lt j i)

  count_date : (j : ℕ) → slot_date c j ≡ slot_date x j
  count_date j = ⊎_elim
      (λ less. number_before q 2 (slot_place j) 4 x c same (omega (arith, less)))
      (λ more. number_after q 2 (slot_place j) 4 x c same (omega (arith, more)))
      (cases_lt j (i + 1))

  count_dates : SameDates x c
  unfolding last_kept
  count_dates = record { kept = number_before q 2 LAST_KEPT.place LAST_KEPT.size x c same (omega arith); pointer_is = count_but.pointer_is; there = count_but.there; date = count_date }

  count_slot : (DayPasses x i → DayPasses c i) → (j : ℕ) → list_all passes (slot_checks x j) ≡ true → list_all passes (slot_checks c j) ≡ true
  count_slot here j all = by (cases_eq j i)
    where
      by : (j ≡ i) ⊎ (j ≢ i) → list_all passes (slot_checks c j) ≡ true
      by (inl at) =
          let all_i : list_all passes (slot_checks x i) ≡ true = ap (λ (m : ℕ). list_all passes (slot_checks x m)) (sym at) ∙ all in
          ap (λ (m : ℕ). list_all passes (slot_checks c m)) at ∙ slot_by x c i (count_but.there i) here all_i
      by (inr other) = slot_by x c j (count_but.there j) (day_still x c j (date_good x c count_dates j) (count_elsewhere j 4 4 other (omega arith)) (count_elsewhere j 8 2 other (omega arith)) (count_words j (slot_count x j) other)) all

  count_good : (DayPasses x i → DayPasses c i) → IsGood x → IsGood c
  count_good here good = out_good x c (outside_wider (slot_place 0) (DAYS.size - 4) q 2 x c same (omega arith) (omega (arith, below))) (λ there. same_day x c count_dates (last_kept x / 1440) ∙ there) (same_point x c count_dates ∙ good.point) (λ j less. count_slot here j (good.slots j less)) good

  -- with this count its words are good
  counted_here : (n : ℕ) → slot_count c i ≡ n → 2 ≤ n → n ≤ DAY_WORD_LIMIT → list_all passes (word_checks (slot_place i + DAY_WORDS.place) [] (slot_words c i n)) ≡ true → DayPasses x i → DayPasses c i
  counted_here n count two few words day = record {
    date = date_good x c count_dates i ∙ day.date;
    odometer = ap (λ (m : ℕ). nat_le m HIGHEST_ODOMETER) (number_before q 2 (slot_place i + 4) 4 x c same (omega arith)) ∙ day.odometer;
    low = omega (arith, two, count);
    high = omega (arith, few, count);
    words = ap (λ (m : ℕ). list_all passes (word_checks (slot_place i + DAY_WORDS.place) [] (slot_words c i m))) count ∙ words;
  }

  pub counted_good : (n : ℕ) → slot_count c i ≡ n → 2 ≤ n → n ≤ DAY_WORD_LIMIT → list_all passes (word_checks (slot_place i + DAY_WORDS.place) [] (slot_words c i n)) ≡ true → IsGood x → IsGood c
  counted_good n count two few words = count_good (counted_here n count two few words)

  -- the count is cut to the words that are not later
  pub cut_good : (stored n k : ℕ) → n ≤ stored → slot_count x i ≡ stored → slot_count c i ≡ n → Each (λ w. k < word_minute w) (words_at x (slot_place i + DAY_WORDS.place + 2 * n) (stored - n)) → IsGood x → IsGood c
  cut_good stored n k few count count' late = count_good (λ day.
      let p : ℕ = slot_place i + DAY_WORDS.place in
      let whole : n + (stored - n) ≡ slot_count x i = omega (arith, few, count) in
      let front = slot_words x i n in
      let rest = words_at x (p + 2 * n) (stored - n) in
      let all : list_all passes (word_checks p [] (front ++ rest)) ≡ true =
      ap (λ (ws : List ℕ). list_all passes (word_checks p [] ws)) (sym (words_split x p n (stored - n)) ∙ ap (slot_words x i) whole) ∙ day.words in
      let front_length : length front ≡ n = length-map-range_with_len (λ j. number_at x (p + 2 * j) 2) 0 n in
      let rest_length : length rest ≡ stored - n = length-map-range_with_len (λ j. number_at x (p + 2 * n + 2 * j) 2) 0 (stored - n) in
      let two : 2 ≤ length front = two_first p k front rest all late (omega (arith, front_length, rest_length, few, count, day.low)) in
      counted_here n count' (omega (arith, two, front_length)) (omega (arith, few, count, day.high)) (ap (λ (ws : List ℕ). list_all passes (word_checks p [] ws)) (words_after q 2 p n x c same (omega arith)) ∙ checks_front p [] front rest all) day)

or_true : (a b : Bool) → b ≡ true → (a || b) ≡ true
or_true true b is = refl
or_true false b is = is

and_false : (a b : Bool) → b ≡ false → (a && b) ≡ false
and_false true b is = is
and_false false b is = refl

ne_false : (a b : ℕ) → b < a → (a == b) ≡ false
ne_false a b more = grind (arith, nat_tests)

gt_of : (a b : ℕ) → nat_le a b ≡ false → b < a
gt_of a b isnt = grind (arith, nat_tests)

-- tests that differ at one index alone, which the one passes and the other does not
any_but : (t u : ℕ → Bool) (s : ℕ) → t s ≡ false → ((j : ℕ) → j ≢ s → u j ≡ t j) → (js : List ℕ) → list_any t js ≡ true → list_any u js ≡ true
any_but t u s off same [] some = some
any_but t u s off same (j ∷ js) some = by (any_but t u s off same js) (cases_eq j s) (t j) refl
  where
    by : (list_any t js ≡ true → list_any u js ≡ true) → (j ≡ s) ⊎ (j ≢ s) → (b : Bool) → t j ≡ b → (u j || list_any u js) ≡ true
    by more (inl here) true on = let bad : true ≡ false = sym on ∙ ap t here ∙ off in absurd (cc)
    by more (inr other) true on = ap (λ (b : Bool). b || list_any u js) (same j other ∙ on)
    by more at false none = or_true (u j) (list_any u js) (more (sym (ap (λ (b : Bool). b || list_any t js) none) ∙ some))

filled_short : (t u : ℕ → Bool) (s : ℕ) → u s ≡ false → (js : List ℕ) → orders.Each (λ j. u j ≡ t j) js → is_filled_on (map t (js ++ s ∷ [])) ≡ true → is_filled_on (map u (js ++ s ∷ [])) ≡ true
filled_short t u s off [] all is = ap (λ (b : Bool). is_filled_on (b ∷ [])) off
filled_short t u s off (j ∷ js) all is = by (filled_short t u s off js all.1) (t j) refl
  where
    by : (is_filled_on (map t (js ++ s ∷ [])) ≡ true → is_filled_on (map u (js ++ s ∷ [])) ≡ true) → (b : Bool) → t j ≡ b → is_filled_on (map u (j ∷ js ++ s ∷ [])) ≡ true
    by more true on =
        ap (λ (b : Bool). is_filled_on (b ∷ map u (js ++ s ∷ []))) (all.0 ∙ on)
        ∙ more (sym (ap (λ (b : Bool). is_filled_on (b ∷ map t (js ++ s ∷ []))) on) ∙ is)
    by more false none =
        ap (λ (b : Bool). is_filled_on (b ∷ map u (js ++ s ∷ []))) (all.0 ∙ none)
        ∙ ap (λ (n : ℕ). n == 0) (length-map (js ++ s ∷ []) u ∙ sym (length-map (js ++ s ∷ []) t))
        ∙ sym (ap (λ (b : Bool). is_filled_on (b ∷ map t (js ++ s ∷ []))) none) ∙ is

dense_short : (t u : ℕ → Bool) (s : ℕ) → u s ≡ false → (js : List ℕ) → orders.Each (λ j. u j ≡ t j) js → are_dense (map t (js ++ s ∷ [])) ≡ true → are_dense (map u (js ++ s ∷ [])) ≡ true
dense_short t u s off [] all is = ap (λ (b : Bool). are_dense (b ∷ [])) off
dense_short t u s off (j ∷ js) all is = by (dense_short t u s off js all.1) (t j) refl
  where
    by : (are_dense (map t (js ++ s ∷ [])) ≡ true → are_dense (map u (js ++ s ∷ [])) ≡ true) → (b : Bool) → t j ≡ b → are_dense (map u (j ∷ js ++ s ∷ [])) ≡ true
    by more true on =
        ap (λ (b : Bool). are_dense (b ∷ map u (js ++ s ∷ []))) (all.0 ∙ on)
        ∙ filled_short t u s off js all.1 (sym (ap (λ (b : Bool). are_dense (b ∷ map t (js ++ s ∷ []))) on) ∙ is)
    by more false none =
        ap (λ (b : Bool). are_dense (b ∷ map u (js ++ s ∷ []))) (all.0 ∙ none)
        ∙ more (sym (ap (λ (b : Bool). are_dense (b ∷ map t (js ++ s ∷ []))) none) ∙ is)

-- the gate of the later day, which stands at the pointer, is shut
module _ (x c : List ℕ) (s : ℕ) (below : s < DAY_SLOTS) (same : SameOutside (slot_place s) 4 x c) (off : is_there day_ring c s ≡ false) (at : pointer day_ring x ≡ s)
    (there : (j : ℕ) → j ≢ s → is_there day_ring c j ≡ is_there day_ring x j) (later : last_kept x / 1440 < slot_day x s) (last : is_last_good c s (indices c) ≡ true) where
  shut_elsewhere : (j a m : ℕ) → j ≢ s → a + m ≤ DAY_SLOT_SIZE → number_at c (slot_place j + a) m ≡ number_at x (slot_place j + a) m
  shut_elsewhere j a m other le = ⊎_elim
      (λ less. number_before (slot_place s) 4 (slot_place j + a) m x c same (omega (arith, less, le)))
      (λ more. let greater : s < j = omega (arith, more, other) in number_after (slot_place s) 4 (slot_place j + a) m x c same (omega (arith, greater)))
      (cases_lt j s)

  shut_words : (j m : ℕ) → j ≢ s → m ≤ DAY_WORD_LIMIT → slot_words c j m ≡ slot_words x j m
  shut_words j m other le = ⊎_elim
      (λ less. words_before (slot_place s) 4 (slot_place j + DAY_WORDS.place) m x c same (omega (arith, less, le)))
      (λ more. let greater : s < j = omega (arith, more, other) in words_after (slot_place s) 4 (slot_place j + DAY_WORDS.place) m x c same (omega (arith, greater)))
      (cases_lt j s)

  shut_date : (j : ℕ) → j ≢ s → slot_date c j ≡ slot_date x j
  shut_date j other = ap (λ (p : ℕ). number_at c p 4) (omega arith) ∙ shut_elsewhere j 0 4 other (omega arith) ∙ ap (λ (p : ℕ). number_at x p 4) (omega arith)

  kept_same : last_kept c ≡ last_kept x
  unfolding last_kept
  kept_same = number_before (slot_place s) 4 LAST_KEPT.place LAST_KEPT.size x c same (omega arith)

  point_same : pointer day_ring c ≡ pointer day_ring x
  point_same = number_before (slot_place s) 4 DAYS.place 4 x c same (omega arith)

  today : has_day x (last_kept x / 1440) ≡ true → has_day c (last_kept x / 1440) ≡ true
  today there_x = any_but (λ i. is_there day_ring x i && slot_day x i == last_kept x / 1440) (λ i. is_there day_ring c i && slot_day c i == last_kept x / 1440) s
      (and_false (is_there day_ring x s) (slot_day x s == last_kept x / 1440) (ne_false (slot_day x s) (last_kept x / 1440) later))
      (λ j other t. there j other t && shut_date j other t / 86400 == last_kept x / 1440) (range_with_len 0 DAY_SLOTS) there_x

  others : orders.Each (λ j. is_there day_ring c j ≡ is_there day_ring x j) (rest day_ring s)
  others = each_weaker (λ j. j ≢ s) (λ j. is_there day_ring c j ≡ is_there day_ring x j) (rest day_ring s) there (rest_others day_ring s below)

  shut_dense : are_dense (map (is_there day_ring x) (order day_ring (next day_ring s))) ≡ true → are_dense (map (is_there day_ring c) (order day_ring (next day_ring s))) ≡ true
  shut_dense dense =
      ap (λ (js : List ℕ). are_dense (map (is_there day_ring c) js)) (order_last day_ring s below)
      ∙ dense_short (is_there day_ring x) (is_there day_ring c) s off (rest day_ring s) others (ap (λ (js : List ℕ). are_dense (map (is_there day_ring x) js)) (sym (order_last day_ring s below)) ∙ dense)

  shut_point : is_pointer_good x ≡ true → is_pointer_good c ≡ true
  shut_point good =
      let a = nat_lt s DAY_SLOTS in
      let d = are_dense (map (is_there day_ring x) (order day_ring (next day_ring s))) in
      let l = is_last_good x s (indices x) in
      let d' = are_dense (map (is_there day_ring c) (order day_ring (next day_ring s))) in
      let l' = is_last_good c s (indices c) in
      let at_s : (a && (d && l)) ≡ true = ap (λ (p : ℕ). nat_lt p DAY_SLOTS && (are_dense (map (is_there day_ring x) (order day_ring (next day_ring p))) && is_last_good x p (indices x))) (sym at) ∙ good in
      let first = and_split a (d && l) at_s in
      let second = and_split d l first.1 in
      ap (λ (p : ℕ). nat_lt p DAY_SLOTS && (are_dense (map (is_there day_ring c) (order day_ring (next day_ring p))) && is_last_good c p (indices c))) (point_same ∙ at)
      ∙ and_join a (d' && l') first.0 (and_join d' l' (shut_dense second.0) last)

  -- the slots before one are as before: the pointer's is none of them
  abbrev befores : ℕ → List ℕ
  befores i = cond (nat_le (s + 1) i) (range_with_len (s + 1) (i - (s + 1))) (range_with_len (s + 1) (DAY_SLOTS - (s + 1)) ++ range_with_len 0 i)

  not_in : (i : ℕ) → (b : Bool) → nat_le (s + 1) i ≡ b → orders.Each (λ j. j ≢ s) (cond b (range_with_len (s + 1) (i - (s + 1))) (range_with_len (s + 1) (DAY_SLOTS - (s + 1)) ++ range_with_len 0 i))
  not_in i true is = range_each (λ j. j ≢ s) (s + 1) (i - (s + 1)) (λ j low high is_s. absurd (omega (arith, low, is_s)))
  not_in i false is =
      let low_i : i ≤ s = omega (arith, gt_of (s + 1) i is) in
      each_append (λ j. j ≢ s) (range_with_len (s + 1) (DAY_SLOTS - (s + 1))) (range_with_len 0 i)
      (range_each (λ j. j ≢ s) (s + 1) (DAY_SLOTS - (s + 1)) (λ j low high is_s. absurd (omega (arith, low, is_s))))
      (range_each (λ j. j ≢ s) 0 i (λ j low high is_s. absurd (omega (arith, high, low_i, is_s))))

  before_same : (i : ℕ) → map (slot_date c) (indices_before c i) ≡ map (slot_date x) (indices_before x i)
  before_same i =
      let away = not_in i (nat_le (s + 1) i) refl in
      let js : List ℕ = befores i in
      ap (λ (p : ℕ). map (slot_date c) (filter (is_there day_ring c) (cond (nat_le (p + 1) i) (range_with_len (p + 1) (i - (p + 1))) (range_with_len (p + 1) (DAY_SLOTS - (p + 1)) ++ range_with_len 0 i)))) (point_same ∙ at)
      ∙ ap (map (slot_date c)) (filter_same (is_there day_ring x) (is_there day_ring c) js (each_weaker (λ j. j ≢ s) (λ j. is_there day_ring c j ≡ is_there day_ring x j) js there away))
      ∙ map_same (slot_date x) (slot_date c) (filter (is_there day_ring x) js) (each_filter (λ j. slot_date c j ≡ slot_date x j) (is_there day_ring x) js (each_weaker (λ j. j ≢ s) (λ j. slot_date c j ≡ slot_date x j) js shut_date away))
      ∙ ap (λ (p : ℕ). map (slot_date x) (filter (is_there day_ring x) (cond (nat_le (p + 1) i) (range_with_len (p + 1) (i - (p + 1))) (range_with_len (p + 1) (DAY_SLOTS - (p + 1)) ++ range_with_len 0 i)))) (sym at)

  shut_slot : (j : ℕ) → list_all passes (slot_checks x j) ≡ true → list_all passes (slot_checks c j) ≡ true
  shut_slot j all = by (cases_eq j s)
    where
      by : (j ≡ s) ⊎ (j ≢ s) → list_all passes (slot_checks c j) ≡ true
      by (inl here) = ap (λ (b : Bool). list_all passes (cond b (day_checks c j) [])) (ap (is_there day_ring c) here ∙ off)
      by (inr other) = slot_by x c j (there j other) (day_still x c j (λ t. is_date_good (kept_same t) (before_same j t) (shut_date j other t)) (shut_elsewhere j 4 4 other (omega arith)) (shut_elsewhere j 8 2 other (omega arith)) (shut_words j (slot_count x j) other)) all

  pub shut_good : IsGood x → IsGood c
  shut_good good = out_good x c (outside_wider (slot_place 0) (DAYS.size - 4) (slot_place s) 4 x c same (omega arith) (omega (arith, below))) today (shut_point good.point) (λ j less. shut_slot j (good.slots j less)) good
