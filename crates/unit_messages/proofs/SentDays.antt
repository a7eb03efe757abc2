-- The days that a unit sends, by the slots of its recorded days.
use Rattle.std.proofs.Common.{◌≡◌, ◌≢◌, ℕ, zero, suc, ◌+◌, ◌-◌, ◌*◌, ◌/◌, ◌%◌, ◌<◌, ◌≤◌, min, Bool, true, false, cond, Some, None, List, [], ◌∷◌, length, map, filter, All, ⊎_elim, refl, sym, ◌∙◌, ap, subst, arith}
use Rattle.std.specs.Prelude.{◌==◌, nat_le, slice_get, find}
use Rattle.std.specs.List.{range_with_len, list_all}
use Rattle.std.proofs.lemmas.Bool.{cases_lt}
use Rattle.std.proofs.lemmas.Option.{slice_get_within}
use Rattle.std.proofs.lemmas.Bool.Decides.{nat_tests}
use Rattle.gated_ring.specs.Ring.{number_at, is_there, order, pointer, next, indices as ring_indices}
use Rattle.gated_ring.proofs.Orders as orders
use Rattle.gated_ring.proofs.Orders.{each_append, range_each, next_below}
use Rattle.unit_model.specs.Days.{StoredDay, word_minute, day_of, day_kept, days_kept, Each}
use Rattle.unit_model.specs.Image.{last_kept, day_ring, slot_date, slot_odometer, slot_count, slot_words, slot_place, words_at, indices, recorded_indices, covered_words, recorded_words}
use Rattle.unit_model.specs.Decoding.{Decodes, day_checks}
use Rattle.unit_model.proofs.Checks.{passes, good_of, le_of}
use Rattle.unit_model.proofs.StillDecodes.{day_split}
use Rattle.unit_model.proofs.WholeDays.{decoded_of}
use Rattle.unit_model.proofs.Decoded.{IsDecoded}
use Rattle.unit_model.proofs.Finding.{all_there}
use Rattle.unit_model.proofs.LastDay.{in_order}
use Rattle.unit_model.proofs.Rising.{AreInOrder}
use Rattle.unit_minutes.specs.declared.notes.Notes.{Notes}
use Rattle.unit_minutes.specs.Image.{IsNotes}
use Rattle.unit_minutes.specs.Reading.{AreRight, IsOfDate}
use Rattle.unit_minutes.specs.declared.journal.reading.UnitDay.{UnitDay}
use Rattle.unit_minutes.proofs.Shown.{AreShown, shown, word_at}
use Rattle.unit_model.proofs.Recorded.{date_in, map_of, each_get}
use Rattle.unit_model.proofs.Slots.{day_at, day_is, all_days}
use Rattle.message_model.specs.Sending.{sent_days}

-- a recorded day as it is sent
abbrev pub sent_at : List ℕ → ℕ → StoredDay
sent_at x i = record { date = slot_date x i; odometer = slot_odometer x i; words = recorded_words x i }

filter_of : {X : Type 0} (p : X → Bool) (f : ℕ → X) (js : List ℕ) → filter p (map f js) ≡ map f (filter (λ j. p (f j)) js)
filter_of p f [] = refl
filter_of {X} p f (j ∷ js) = by (filter_of p f js) (p (f j))
  where
    by : filter p (map f js) ≡ map f (filter (λ i. p (f i)) js) → (b : Bool) → cond b (f j ∷ filter p (map f js)) (filter p (map f js)) ≡ map f (cond b (j ∷ filter (λ i. p (f i)) js) (filter (λ i. p (f i)) js))
    by rest true = ap (λ (l : List X). f j ∷ l) rest
    by rest false = rest

map_each : {X : Type 0} (f g : ℕ → X) (js : List ℕ) → Each (λ j. f j ≡ g j) js → map f js ≡ map g js
map_each f g [] all = refl
map_each f g (j ∷ js) all = λ t. all.0 t ∷ map_each f g js all.1 t

-- a slot with a count in range is sent with the words that count
kept_at : (x : List ℕ) (i : ℕ) → slot_count x i ≤ 2880 → day_kept (last_kept x) (day_at x i) ≡ sent_at x i
kept_at x i few =
    let covered : covered_words x i ≡ slot_words x i (slot_count x i) = ap (slot_words x i) (let e : min (slot_count x i) 2880 ≡ slot_count x i = omega (arith, few) in e) in
    ap (day_kept (last_kept x)) (day_is x i (slot_count x i) refl few)
    ∙ by (slot_date x i / 86400 == last_kept x / 1440)
    ∙ ap (λ (l : List ℕ). let d : StoredDay = record { date = slot_date x i; odometer = slot_odometer x i; words = cond (slot_date x i / 86400 == last_kept x / 1440) (filter (λ w. nat_le (word_minute w) (last_kept x % 1440)) l) l } in d) (sym covered)
  where
    by : (b : Bool)
        → cond b (let d : StoredDay = record { date = slot_date x i; odometer = slot_odometer x i; words = filter (λ w. nat_le (word_minute w) (last_kept x % 1440)) (slot_words x i (slot_count x i)) } in d)
        (record { date = slot_date x i; odometer = slot_odometer x i; words = slot_words x i (slot_count x i) })
        ≡ record { date = slot_date x i; odometer = slot_odometer x i; words = cond b (filter (λ w. nat_le (word_minute w) (last_kept x % 1440)) (slot_words x i (slot_count x i))) (slot_words x i (slot_count x i)) }
    by true = refl
    by false = refl

-- the days that are sent are those of the recorded slots
pub sent_are : (x : List ℕ) → Each (λ i. slot_count x i ≤ 2880) (recorded_indices x) → sent_days x ≡ map (sent_at x) (recorded_indices x)
unfolding sent_days recorded_indices
sent_are x few =
    let k = last_kept x in
    let day_same : (i : ℕ) → day_of (day_at x i) ≡ slot_date x i / 86400 = λ i. ap (λ (d : ℕ). d / 86400) (date_in x i) in
    ap (days_kept k) (all_days x) ∙ ap (map (day_kept k)) (filter_of (λ d. nat_le (day_of d) (k / 1440)) (day_at x) (indices x))
    ∙ map_of (day_kept k) (day_at x) (filter (λ i. nat_le (day_of (day_at x i)) (k / 1440)) (indices x))
    ∙ (λ t. map (λ i. day_kept k (day_at x i)) (filter (λ i. nat_le (day_same i t) (k / 1440)) (indices x)))
    ∙ map_each (λ i. day_kept k (day_at x i)) (sent_at x) (filter (λ i. nat_le (slot_date x i / 86400) (k / 1440)) (indices x)) (all_kept (filter (λ i. nat_le (slot_date x i / 86400) (k / 1440)) (indices x)) few)
  where
    all_kept : (js : List ℕ) → Each (λ i. slot_count x i ≤ 2880) js → Each (λ i. day_kept (last_kept x) (day_at x i) ≡ sent_at x i) js
    all_kept [] all = tt
    all_kept (j ∷ js) all = (kept_at x j all.0, all_kept js all.1)

-- a date that none of them has
pub found_none : (f : ℕ → StoredDay) (js : List ℕ) (date : ℕ) → All (λ i. (f i).date ≢ date) js → find (λ d. d.date == date) (map f js) ≡ None
found_none f [] date none = refl
found_none f (j ∷ js) date none =
    ap (λ (t : Bool). cond t (Some (f j)) (find (λ d. d.date == date) (map f js))) (other (f j).date (none 0 j (omega arith)))
    ∙ found_none f js date (λ k d low. none (suc k) d (omega (arith, low)))
  where
    other : (n : ℕ) → n ≢ date → (n == date) ≡ false
    other n different = grind (arith, nat_tests, different)

-- each is earlier than the later ones
earlier : (d e : StoredDay) (days : List StoredDay) (n : ℕ) → AreInOrder (d ∷ days) → slice_get days n ≡ Some e → day_of d < day_of e
earlier d e [] n all is = absurd (cc)
earlier d e (c ∷ days) zero all is = subst (λ (a : StoredDay). day_of d < day_of a) (let same : c ≡ e = cc in same) all.0
earlier d e (c ∷ days) (suc n) all is = let later = earlier c e days n all.1 is in omega (arith, later, all.0)

in_rest : (d : StoredDay) (days : List StoredDay) → AreInOrder (d ∷ days) → AreInOrder days
in_rest d [] all = tt
in_rest d (e ∷ days) all = all.1

get_map : {X : Type 0} (f : ℕ → X) (js : List ℕ) (n i : ℕ) → slice_get js n ≡ Some i → slice_get (map f js) n ≡ Some (f i)
get_map f [] n i is = absurd (cc)
get_map f (j ∷ js) zero i is = ap (λ k. Some (f k)) (let e : j ≡ i = cc in e)
get_map f (j ∷ js) (suc n) i is = get_map f js n i is

-- the day of a date that one of them has
pub found_one : (f : ℕ → StoredDay) (js : List ℕ) (date n i : ℕ) → AreInOrder (map f js) → slice_get js n ≡ Some i → (f i).date ≡ date → find (λ d. d.date == date) (map f js) ≡ Some (f i)
found_one f [] date n i order is here = absurd (cc)
found_one f (j ∷ js) date zero i order is here =
    let same : j ≡ i = cc in
    let has : ((f j).date == date) ≡ true = grind (arith, nat_tests, ap (λ (k : ℕ). (f k).date) same ∙ here) in
    ap (λ (t : Bool). cond t (Some (f j)) (find (λ d. d.date == date) (map f js))) has ∙ ap (λ (k : ℕ). Some (f k)) same
found_one f (j ∷ js) date (suc n) i order is here =
    let before = earlier (f j) (f i) (map f js) n order (get_map f js n i is) in
    let other : ((f j).date == date) ≡ false = apart (f j).date (f i).date before here in
    ap (λ (t : Bool). cond t (Some (f j)) (find (λ d. d.date == date) (map f js))) other ∙ found_one f js date n i (in_rest (f j) (map f js) order) is here
  where
    apart : (a b : ℕ) → a / 86400 < b / 86400 → b ≡ date → (a == date) ≡ false
    apart a b low same = let different : a ≢ date = λ e. omega (arith, low, e, same) in grind (arith, nat_tests, different)

-- a list that is told index by index
pub by_index : (f : ℕ → ℕ) (l : List ℕ) (from : ℕ) → ((k : ℕ) → k < length l → slice_get l k ≡ Some (f (from + k))) → l ≡ map f (range_with_len from (length l))
by_index f [] from all = refl
by_index f (a ∷ l) from all =
    let first : a ≡ f from = let e = all 0 (omega arith) in (let s : a ≡ f (from + 0) = cc in s) ∙ ap f (omega arith) in
    let rest = by_index f l (from + 1) (λ k low. all (suc k) (omega (arith, low)) ∙ ap (λ (n : ℕ). Some (f n)) (omega arith)) in
    λ t. first t ∷ rest t

-- facts of each
each_both : (P Q : ℕ → Type 0) (js : List ℕ) → Each P js → Each Q js → Each (λ j. P j × Q j) js
each_both P Q [] a b = tt
each_both P Q (j ∷ js) a b = ((a.0, b.0), each_both P Q js a.1 b.1)

each_weak : (P Q : ℕ → Type 0) (js : List ℕ) → ((j : ℕ) → P j → Q j) → Each P js → Each Q js
each_weak P Q [] weaker all = tt
each_weak P Q (j ∷ js) weaker all = (weaker j all.0, each_weak P Q js weaker all.1)

each_sift : (P : ℕ → Type 0) (t : ℕ → Bool) (js : List ℕ) → Each P js → Each P (filter t js)
each_sift P t [] all = tt
each_sift P t (j ∷ js) all = by (t j) (each_sift P t js all.1)
  where
    by : (b : Bool) → Each P (filter t js) → Each P (cond b (j ∷ filter t js) (filter t js))
    by true rest = (all.0, rest)
    by false rest = rest

each_from : (P : ℕ → Type 0) (js : List ℕ) → orders.Each P js → Each P js
each_from P [] all = tt
each_from P (j ∷ js) all = (all.0, each_from P js all.1)

-- what is said of each slot that is there, of those of the recorded days; of an image that decodes their counts are in range
pub recorded_good : (P : ℕ → Type 0) (x : List ℕ) → IsDecoded x → ((i : ℕ) → i < 366 → is_there day_ring x i ≡ true → P i) → Each P (recorded_indices x)
unfolding recorded_indices indices ring_indices
recorded_good P x ok all =
    let p = pointer day_ring x in
    let t = is_there day_ring x in
    let round = order day_ring (next day_ring p) in
    let start : next day_ring p < 366 = next_below day_ring p ok.known in
    let below : Each (λ i. i < 366) round =
    each_from (λ i. i < 366) round (each_append (λ i. i < 366) (range_with_len (next day_ring p) (366 - next day_ring p)) (range_with_len 0 (next day_ring p))
    (range_each (λ i. i < 366) (next day_ring p) (366 - next day_ring p) (λ j low high. omega (arith, high, start))) (range_each (λ i. i < 366) 0 (next day_ring p) (λ j low high. omega (arith, high, start)))) in
    each_sift P (λ i. nat_le (slot_date x i / 86400) (last_kept x / 1440)) (filter t round)
    (each_weak (λ i. (i < 366) × (t i ≡ true)) P (filter t round) (λ i both. all i both.0 both.1)
    (each_both (λ i. i < 366) (λ i. t i ≡ true) (filter t round) (each_sift (λ i. i < 366) t round below) (all_there t round)))

pub counts_few : (x : List ℕ) → IsDecoded x → Each (λ i. slot_count x i ≤ 2880) (recorded_indices x)
counts_few x ok = recorded_good (λ i. slot_count x i ≤ 2880) x ok (λ i below there. (ok.slots i below there).count_high)

-- and its odometer
pub odometers_few : (x : List ℕ) → Decodes x → Each (λ i. slot_odometer x i ≤ 9999999) (recorded_indices x)
odometers_few x decodes = recorded_good (λ i. slot_odometer x i ≤ 9999999) x (decoded_of x decodes) few
  where
    few : (i : ℕ) → i < 366 → is_there day_ring x i ≡ true → slot_odometer x i ≤ 9999999
    few i below there =
        let all : list_all passes (day_checks x i) ≡ true = sym (ap (λ (b : Bool). list_all passes (cond b (day_checks x i) [])) there) ∙ (good_of x decodes).slots i below in
        le_of (slot_odometer x i) 9999999 (day_split x i all).odometer

-- where a day is recorded a minute is kept
some_kept : (j : Notes) (ok : IsNotes j) (x : List ℕ) (n i : ℕ) → AreShown j x → slice_get (recorded_indices x) n ≡ Some i → 0 < last_kept x
some_kept j ok x n i s is =
    let below : n < j.day_count = omega (arith, slice_get_within (recorded_indices x) n i is, s.len) in
    ⊎_elim (λ (more : 0 < j.kept). let e : 0 < last_kept x = omega (arith, more, s.kept) in e) (λ (none : j.kept ≤ 0). absurd (omega (arith, below, ok.no_day (omega (arith, none))))) (cases_lt 0 j.kept)

-- the recorded day that was found of a date is the one that is sent, with its words where they stand
pub record IsSentDay (x : List ℕ) (date : ℕ) (d : UnitDay) : Type 0 where
  pub index : ℕ
  pub found : find (λ e. e.date == date) (sent_days x) ≡ Some (sent_at x index)
  pub dated : slot_date x index ≡ date
  pub place : d.place ≡ slot_place index
  pub odometer : d.odometer.0 ≡ slot_odometer x index
  pub words : recorded_words x index ≡ words_at x (slot_place index + 16) d.words

pub day_sent : (j : Notes) (ok : IsNotes j) (x : List ℕ) → Decodes x → AreRight j x → (date : ℕ) (d : UnitDay) → IsOfDate x date (Some d) → IsSentDay x date d
day_sent j ok x decodes right date d is =
    let n = is.1.0 in
    let i = is.1.1 in
    let day = is.1.2 in
    let here : slot_date x i ≡ date = sym day.day.date ∙ is.0 in
    let s = shown j ok x right in
    let decoded = decoded_of x decodes in
    let some = some_kept j ok x n i s day.nth in
    let few : slot_odometer x i ≤ 9999999 = each_get (λ k. slot_odometer x k ≤ 9999999) (recorded_indices x) n i (odometers_few x decodes) day.nth in
    let order_is : AreInOrder (map (sent_at x) (recorded_indices x)) = in_same x (recorded_indices x) (in_order x decoded some).0 in
    let words = by_index (λ k. number_at x (slot_place i + 16 + 2 * k) 2) (recorded_words x i) 0 (λ k low.
    word_at j x n i k s day.nth low ∙ ap (λ (q : ℕ). Some (number_at x (slot_place i + 16 + 2 * q) 2)) (let e : k ≡ 0 + k = omega arith in e)) in
    record {
      index = i;
      found = ap (find (λ e. e.date == date)) (sent_are x (counts_few x decoded)) ∙ found_one (sent_at x) (recorded_indices x) date n i order_is day.nth here;
      dated = here;
      place = day.day.place;
      odometer = omega (arith, day.day.odometer, few);
      words = words ∙ ap (λ (m : ℕ). words_at x (slot_place i + 16) m) (sym day.day.words_are);
    }
  where
    -- the order is that of the dates
    in_same : (x : List ℕ) (js : List ℕ) → AreInOrder (map (day_at x) js) → AreInOrder (map (sent_at x) js)
    in_same x [] all = tt
    in_same x (j ∷ []) all = tt
    in_same x (j ∷ k ∷ js) all = (omega (arith, all.0, date_in x j, date_in x k), in_same x (k ∷ js) all.1)
