-- An image that decodes still does when words are written on a day, and when the odometer and the last-kept minute are.
use Rattle.std.proofs.Common.{◌≡◌, ◌≢◌, inl, inr, ⊎_elim, ℕ, ◌+◌, ◌-◌, ◌*◌, ◌/◌, ◌%◌, ◌<◌, ◌≤◌, Bool, true, false, cond, List, [], ◌∷◌, ◌++◌, length, map, filter, refl, sym, ◌∙◌, ap, subst, arith, lit≤}
use Rattle.std.specs.Prelude.{◌⊎◌, ◌==◌, ◌&&◌, ◌||◌, nat_le, nat_lt}
use Rattle.std.specs.List.{list_all, list_any, range_with_len}
use Rattle.std.proofs.lemmas.Bool.Decides.{nat_tests}
use Rattle.std.proofs.lemmas.Bool.{cases_eq}
use Rattle.std.specs.Int.{to_be_bytes, w32}
use Rattle.gated_ring.specs.tach_media.Medium.{SameOutside, IsPartlyWritten}
use Rattle.gated_ring.proofs.tach_media.Images.{put_outside, outside_wider}
use Rattle.gated_ring.specs.Ring.{number_at, pointer, is_there, entry_at, next, order}
use Rattle.unit_model.specs.declared.layout.TheConstants.{DAYS, DAY_COUNT, DAY_SLOTS, DAY_SLOT_SIZE, DAY_WORDS, DAY_WORD_LIMIT, FIRST_OVER, HIGHEST_ODOMETER, IMAGE_SIZE, INSERTIONS, LAST_KEPT, LAST_MINUTE, ODOMETER, OVER_COUNT, PLACES, RULE_BYTE, SPEEDS}
use Rattle.unit_model.specs.Days.{word_minute, Each}
use Rattle.unit_model.specs.Image.{last_kept, odometer_at, day_ring, slot_place, indices, slot_date, slot_count, slot_words, words_at}
use Rattle.unit_model.specs.Decoding.{cell_place, slot_checks, day_checks, has_day, is_pointer_good, is_last_good, are_dense, indices_before, is_date_good, word_checks, Decodes}
use Rattle.unit_model.specs.Writing.{free_place, DiffersBehind, with_odometer}
use Rattle.unit_model.proofs.Front.{front_odometer as front_odometer_is}
use Rattle.unit_model.proofs.Numbers.{number_before, number_after, number_in, words_before, words_after, words_in}
use Rattle.unit_model.proofs.Slots.{SameButOne, in_slot, in_front, same_indices}
use Rattle.unit_model.proofs.Finding.{all_there, each_last}
use Rattle.unit_model.proofs.Checks.{passes, and_split, and_join, le_true, le_of, IsGood, front_by, front_today, front_kept, front_odometer, still, rings_still}
use Rattle.unit_model.proofs.StillDecodes.{day_split, SameDates, same_day, same_point, date_good, DayPasses, slot_by, day_still, out_good}

-- a slot of which nothing has changed
pub entry_as : (x c : List ℕ) (i : ℕ) → entry_at day_ring c i ≡ entry_at day_ring x i → is_date_good (last_kept c) (map (slot_date c) (indices_before c i)) (slot_date c i) ≡ true → DayPasses x i → DayPasses c i
entry_as x c i same date day = record {
  date = date;
  odometer = ap (λ (n : ℕ). nat_le n HIGHEST_ODOMETER) (number 4 4 (omega arith)) ∙ day.odometer;
  low = omega (arith, number 8 2 (omega arith), day.low);
  high = omega (arith, number 8 2 (omega arith), day.high);
  words = (λ t. list_all passes (word_checks (slot_place i + DAY_WORDS.place) [] (slot_words c i (number 8 2 (omega arith) t)))) ∙ ap (λ (ws : List ℕ). list_all passes (word_checks (slot_place i + DAY_WORDS.place) [] ws)) (words_same day.high) ∙ day.words;
}
  where
    number : (a n : ℕ) → a + n ≤ DAY_SLOT_SIZE → number_at c (slot_place i + a) n ≡ number_at x (slot_place i + a) n
    number a n le = sym (number_in c (slot_place i) DAY_SLOT_SIZE a n le) ∙ ap (λ (e : List ℕ). number_at e a n) same ∙ number_in x (slot_place i) DAY_SLOT_SIZE a n le

    words_same : slot_count x i ≤ DAY_WORD_LIMIT → slot_words c i (slot_count x i) ≡ slot_words x i (slot_count x i)
    words_same few = sym (words_in c (slot_place i) DAY_SLOT_SIZE 16 (slot_count x i) (omega (arith, few))) ∙ ap (λ (e : List ℕ). words_at e 16 (slot_count x i)) same ∙ words_in x (slot_place i) DAY_SLOT_SIZE 16 (slot_count x i) (omega (arith, few))

-- a write behind the words of a slot
module _ (x c : List ℕ) (i n : ℕ) (below : i < DAY_SLOTS) (few : n ≤ DAY_WORD_LIMIT) (same : DiffersBehind i n x c) (count : slot_count x i ≡ n) where
  abbrev q : ℕ
  q = free_place i n

  abbrev room : ℕ
  room = DAY_WORDS.size - 2 * n

  behind_but : SameButOne i x c
  behind_but = in_slot i q room x c (omega arith) (omega (arith, few)) same

  behind_date : (j : ℕ) → slot_date c j ≡ slot_date x j
  behind_date j = by (cases_eq j i)
    where
      by : (j ≡ i) ⊎ (j ≢ i) → slot_date c j ≡ slot_date x j
      by (inl at) = number_before q room (slot_place j) 4 x c same (omega (arith, at))
      by (inr other) =
          ap (λ (p : ℕ). number_at c p 4) (omega arith) ∙ sym (number_in c (slot_place j) DAY_SLOT_SIZE 0 4 (omega arith)) ∙ ap (λ (e : List ℕ). number_at e 0 4) (behind_but.entries j other)
          ∙ number_in x (slot_place j) DAY_SLOT_SIZE 0 4 (omega arith) ∙ ap (λ (p : ℕ). number_at x p 4) (omega arith)

  behind_dates : SameDates x c
  unfolding last_kept
  behind_dates = record { kept = number_before q room LAST_KEPT.place LAST_KEPT.size x c same (omega arith); pointer_is = behind_but.pointer_is; there = behind_but.there; date = behind_date }

  behind_slot : (j : ℕ) → list_all passes (slot_checks x j) ≡ true → list_all passes (slot_checks c j) ≡ true
  behind_slot j = slot_by x c j (behind_but.there j) (by (cases_eq j i))
    where
      by : (j ≡ i) ⊎ (j ≢ i) → DayPasses x j → DayPasses c j
      by (inl at) =
          let count_j : slot_count x j ≡ n = ap (slot_count x) at ∙ count in
          day_still x c j (date_good x c behind_dates j) (number_before q room (slot_place j + 4) 4 x c same (omega (arith, at))) (number_before q room (slot_place j + DAY_COUNT.place) 2 x c same (omega (arith, at)))
          (λ low. words_before q room (slot_place j + DAY_WORDS.place) (slot_count x j) x c same (omega (arith, at, count_j)))
      by (inr other) = λ day. entry_as x c j (behind_but.entries j other) (date_good x c behind_dates j ∙ day.date) day

  pub behind_good : IsGood x → IsGood c
  behind_good good = out_good x c (outside_wider (slot_place 0) (DAYS.size - 4) q room x c same (omega arith) (omega (arith, below, few))) (λ there. same_day x c behind_dates (last_kept x / 1440) ∙ there) (same_point x c behind_dates ∙ good.point) (λ j less. behind_slot j (good.slots j less)) good

-- a later last-kept minute makes no date worse
le_more : (a k m : ℕ) → k ≤ m → nat_le a (k / 1440) ≡ true → nat_le a (m / 1440) ≡ true
le_more a k m le is = le_true a (m / 1440) (omega (arith, le, le_of a (k / 1440) is))

or_mono : (a b a' b' : Bool) → (a ≡ true → a' ≡ true) → (b ≡ true → b' ≡ true) → (a || b) ≡ true → (a' || b') ≡ true
or_mono true b a' b' first next is = ap (λ (v : Bool). v || b') (first refl)
or_mono false b true b' first next is = refl
or_mono false b false b' first next is = next is

all_mono : (P Q : ℕ → Bool) → ((d : ℕ) → P d ≡ true → Q d ≡ true) → (ds : List ℕ) → list_all P ds ≡ true → list_all Q ds ≡ true
all_mono P Q more [] all = refl
all_mono P Q more (d ∷ ds) all = let both = and_split (P d) (list_all P ds) all in and_join (Q d) (list_all Q ds) (more d both.0) (all_mono P Q more ds both.1)

pub date_mono : (k m : ℕ) → k ≤ m → (before : List ℕ) (date : ℕ) → is_date_good k before date ≡ true → is_date_good m before date ≡ true
date_mono k m le before date all =
    let order : Bool = list_all (λ d. nat_lt d date) before in
    let late = λ (n : ℕ). nat_le (date / 86400) (n / 1440) || list_all (λ d. nat_le (d / 86400) (n / 1440)) before in
    let first = and_split (date % 86400 == 0) (order && late k) all in
    let second = and_split order (late k) first.1 in
    and_join (date % 86400 == 0) (order && late m) first.0
    (and_join order (late m) second.0
    (or_mono (nat_le (date / 86400) (k / 1440)) (list_all (λ d. nat_le (d / 86400) (k / 1440)) before) (nat_le (date / 86400) (m / 1440)) (list_all (λ d. nat_le (d / 86400) (m / 1440)) before) (le_more (date / 86400) k m le)
    (all_mono (λ d. nat_le (d / 86400) (k / 1440)) (λ d. nat_le (d / 86400) (m / 1440)) (λ d. le_more (d / 86400) k m le) before) second.1))

-- the odometer or the last-kept minute is written
module _ (x c : List ℕ) (same : SameOutside LAST_KEPT.place 8 x c) (later : last_kept x ≤ last_kept c) (kept : last_kept c ≤ LAST_MINUTE) (odometer : odometer_at c ≤ HIGHEST_ODOMETER) (today : (last_kept c == 0 || has_day c (last_kept c / 1440)) ≡ true) where
  front_but : SameButOne 0 x c
  front_but = in_front 0 LAST_KEPT.place 8 x c (omega arith) same

  behind : (a n : ℕ) → FIRST_OVER.place ≤ a → number_at c a n ≡ number_at x a n
  behind a n le = number_after LAST_KEPT.place 8 a n x c same (omega (arith, le))

  date : (j : ℕ) → slot_date c j ≡ slot_date x j
  date j = behind (slot_place j) 4 (omega arith)

  befores : (i : ℕ) → map (slot_date c) (indices_before c i) ≡ map (slot_date x) (indices_before x i)
  befores i = λ t.
      let q : ℕ = front_but.pointer_is t + 1 in
      map (λ j. date j t) (filter (λ j. front_but.there j t) (cond (nat_le q i) (range_with_len q (i - q)) (range_with_len q (DAY_SLOTS - q) ++ range_with_len 0 i)))

  front_day : (j : ℕ) → DayPasses x j → DayPasses c j
  front_day j day = record {
    date = (λ t. is_date_good (last_kept c) (befores j t) (date j t)) ∙ date_mono (last_kept x) (last_kept c) later (map (slot_date x) (indices_before x j)) (slot_date x j) day.date;
    odometer = ap (λ (m : ℕ). nat_le m HIGHEST_ODOMETER) (behind (slot_place j + 4) 4 (omega arith)) ∙ day.odometer;
    low = omega (arith, behind (slot_place j + DAY_COUNT.place) 2 (omega arith), day.low);
    high = omega (arith, behind (slot_place j + DAY_COUNT.place) 2 (omega arith), day.high);
    words = (λ t. list_all passes (word_checks (slot_place j + DAY_WORDS.place) [] (slot_words c j (behind (slot_place j + DAY_COUNT.place) 2 (omega arith) t))))
        ∙ ap (λ (ws : List ℕ). list_all passes (word_checks (slot_place j + DAY_WORDS.place) [] ws)) (words_after LAST_KEPT.place 8 (slot_place j + DAY_WORDS.place) (slot_count x j) x c same (omega arith)) ∙ day.words;
  }

  last_more : (p : ℕ) (js : List ℕ) → is_last_good x p js ≡ true → is_last_good c p js ≡ true
  last_more p [] is = refl
  last_more p (i ∷ []) is =
      (λ t. nat_le (date i t / 86400) (last_kept c / 1440) || i == p)
      ∙ or_mono (nat_le (slot_date x i / 86400) (last_kept x / 1440)) (i == p) (nat_le (slot_date x i / 86400) (last_kept c / 1440)) (i == p) (le_more (slot_date x i / 86400) (last_kept x) (last_kept c) later) (λ at. at) is
  last_more p (i ∷ j ∷ js) is = last_more p (j ∷ js) is

  front_point : is_pointer_good x ≡ true → is_pointer_good c ≡ true
  front_point good =
      let p = pointer day_ring x in
      let a = nat_lt p DAY_SLOTS in
      let d = are_dense (map (is_there day_ring x) (order day_ring (next day_ring p))) in
      let l = is_last_good x p (indices x) in
      let first = and_split a (d && l) good in
      let second = and_split d l first.1 in
      (λ t. nat_lt (front_but.pointer_is t) DAY_SLOTS && (are_dense (map (λ j. front_but.there j t) (order day_ring (next day_ring (front_but.pointer_is t)))) && is_last_good c (front_but.pointer_is t) (same_indices 0 x c front_but t)))
      ∙ and_join a (d && is_last_good c p (indices x)) first.0 (and_join d (is_last_good c p (indices x)) second.0 (last_more p (indices x) second.1))

  pub front_good : IsGood x → IsGood c
  front_good good = record {
    front = front_by x c (number_before LAST_KEPT.place 8 0 4 x c same (omega arith), number_before LAST_KEPT.place 8 RULE_BYTE.place RULE_BYTE.size x c same (omega arith)) (behind OVER_COUNT.place OVER_COUNT.size (omega arith)) kept odometer today good.front;
    cells = λ n below. (λ t. behind (cell_place n) 4 (omega arith) t == 0 || nat_lt (word_minute (behind (cell_place n + 4) 2 (omega arith) t)) 1440) ∙ good.cells n below;
    point = front_point good.point;
    slots = λ j less. slot_by x c j (front_but.there j) (front_day j) (good.slots j less);
    rings = rings_still x c (behind INSERTIONS.place 4 (omega arith)) (behind PLACES.place 4 (omega arith)) (behind SPEEDS.place 4 (omega arith)) good.rings;
  }

not_zero : (n : ℕ) → 0 < n → (n == 0) ≡ false
not_zero n more = grind (arith, nat_tests)

-- the days that are there are the same after such a write
has_same : (x c : List ℕ) → SameOutside LAST_KEPT.place 8 x c → (day : ℕ) → has_day c day ≡ has_day x day
has_same x c same day =
    let but : SameButOne 0 x c = in_front 0 LAST_KEPT.place 8 x c (omega arith) same in
    let date : (j : ℕ) → slot_date c j ≡ slot_date x j = λ j. number_after LAST_KEPT.place 8 (slot_place j) 4 x c same (omega arith) in
    λ t. list_any (λ i. but.there i t && date i t / 86400 == day) (range_with_len 0 DAY_SLOTS)

pub odometer_good : (x c : List ℕ) → SameOutside ODOMETER.place ODOMETER.size x c → odometer_at c ≤ HIGHEST_ODOMETER → IsGood x → IsGood c
unfolding last_kept
odometer_good x c same odometer good =
    let wide : SameOutside LAST_KEPT.place 8 x c = outside_wider LAST_KEPT.place 8 ODOMETER.place ODOMETER.size x c same (omega arith) (omega arith) in
    let kept : last_kept c ≡ last_kept x = number_before ODOMETER.place ODOMETER.size LAST_KEPT.place LAST_KEPT.size x c same (omega arith) in
    front_good x c wide (omega (arith, kept)) (omega (arith, kept, front_kept x good.front)) odometer ((λ t. kept t == 0 || has_same x c wide (kept t / 1440) t) ∙ front_today x good.front) good

pub mark_good : (x c : List ℕ) → SameOutside LAST_KEPT.place LAST_KEPT.size x c → last_kept x ≤ last_kept c → last_kept c ≤ LAST_MINUTE → (last_kept c == 0 || has_day c (last_kept c / 1440)) ≡ true → IsGood x → IsGood c
unfolding odometer_at
mark_good x c same later kept today good =
    let odometer : odometer_at c ≡ odometer_at x = number_after LAST_KEPT.place LAST_KEPT.size ODOMETER.place ODOMETER.size x c same (omega arith) in
    front_good x c (outside_wider LAST_KEPT.place 8 LAST_KEPT.place LAST_KEPT.size x c same (omega arith) (omega arith)) later kept (omega (arith, odometer, front_odometer x good.front)) today good

-- a later minute of the last-kept minute's day
pub day_good : (x c : List ℕ) → SameOutside LAST_KEPT.place LAST_KEPT.size x c → 0 < last_kept x → last_kept x ≤ last_kept c → last_kept c / 1440 ≡ last_kept x / 1440 → last_kept c ≤ LAST_MINUTE → IsGood x → IsGood c
day_good x c same some later day kept good =
    let wide : SameOutside LAST_KEPT.place 8 x c = outside_wider LAST_KEPT.place 8 LAST_KEPT.place LAST_KEPT.size x c same (omega arith) (omega arith) in
    let there : has_day x (last_kept x / 1440) ≡ true = other_true (last_kept x == 0) (has_day x (last_kept x / 1440)) (not_zero (last_kept x) some) (front_today x good.front) in
    mark_good x c same later kept (or_right (last_kept c == 0) (has_day c (last_kept c / 1440)) (has_same x c wide (last_kept c / 1440) ∙ ap (has_day x) day ∙ there)) good
  where
    other_true : (a b : Bool) → a ≡ false → (a || b) ≡ true → b ≡ true
    other_true true b off is = absurd (cc)
    other_true false b off is = is

    or_right : (a b : Bool) → b ≡ true → (a || b) ≡ true
    or_right true b is = refl
    or_right false b is = is

-- the last index of the list is there, and its checks
pub index_there : (x : List ℕ) (js : List ℕ) (i : ℕ) → indices x ≡ js ++ i ∷ [] → is_there day_ring x i ≡ true
unfolding indices Rattle.gated_ring.specs.Ring.indices
index_there x js i is = each_last (λ j. is_there day_ring x j ≡ true) js i (subst (Each (λ j. is_there day_ring x j ≡ true)) is (all_there (is_there day_ring x) (order day_ring (next day_ring (pointer day_ring x)))))

pub last_day : (x : List ℕ) (js : List ℕ) (i : ℕ) → i < DAY_SLOTS → indices x ≡ js ++ i ∷ [] → IsGood x → DayPasses x i
last_day x js i below is good = day_split x i (sym (ap (λ (b : Bool). list_all passes (cond b (day_checks x i) [])) (index_there x js i is)) ∙ good.slots i below)

-- the odometer is written
pub put_odometer_good : (odometer : ℕ) (x : List ℕ) → length x ≡ IMAGE_SIZE → odometer ≤ HIGHEST_ODOMETER → IsGood x → IsGood (with_odometer odometer x)
put_odometer_good odometer x sized far =
    odometer_good x (with_odometer odometer x) (put_outside ODOMETER.place (to_be_bytes w32 odometer) x (omega (arith, sized))) (omega (arith, far, (front_odometer_is odometer x sized far).odometer_is))

pub odometer_decodes : (odometer : ℕ) (x c : List ℕ) → length x ≡ IMAGE_SIZE → odometer ≤ HIGHEST_ODOMETER → IsPartlyWritten ODOMETER.place (to_be_bytes w32 odometer) x c → Decodes x → Decodes c
odometer_decodes odometer x c sized far part = ⊎_elim
    (λ absent. subst (λ (d : List ℕ). Decodes x → Decodes d) (sym absent) (λ decodes. decodes))
    (λ whole. subst (λ (d : List ℕ). Decodes x → Decodes d) (sym whole) (still x (with_odometer odometer x) (put_odometer_good odometer x sized far)))
    (part.whole (lit≤ tt))
