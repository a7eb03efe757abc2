-- Where the recorded days stand, and which of their words count.
use Rattle.std.proofs.Common.{◌≡◌, ◌≢◌, ⊎_elim, ℕ, zero, suc, ◌+◌, ◌-◌, ◌*◌, ◌/◌, ◌%◌, ◌<◌, ◌≤◌, min, Bool, true, false, cond, List, [], ◌∷◌, ◌++◌, length, get_or, map, filter, drop, Option, Some, None, refl, sym, ◌∙◌, ap, subst, arith, length-append, length-drop}
use Rattle.std.specs.Prelude.{◌==◌, nat_le, slice_get, MatchOption, All}
use Rattle.std.specs.List.{range_with_len}
use Rattle.std.proofs.lemmas.Bool.Decides.{nat_tests}
use Rattle.std.proofs.lemmas.Bool.{cases_lt}
use Rattle.std.proofs.lemmas.List.{append-nil}
use Rattle.std.proofs.lemmas.List.Elements.{filter-append}
use Rattle.std.proofs.lemmas.List.FromFn.{length-range_with_len, get_or-range_with_len, length-map-range_with_len, get_or-map-range_with_len}
use Rattle.std.proofs.lemmas.Option.{slice_get-get_or, slice_get_within, get_or_from_slice_get}
use Rattle.tach_media.specs.Medium.{bytes_at}
use Rattle.gated_ring.specs.Ring.{number_at, entry_at}
use Rattle.gated_ring.proofs.Orders.{filter_last, filter_none}
use Rattle.unit_model.specs.declared.layout.TheConstants.{DAY_SLOTS, DAY_WORDS, DAY_WORD_LIMIT}
use Rattle.unit_model.specs.Days.{day_of, word_minute, Each}
use Rattle.unit_model.specs.Image.{last_kept, day_ring, slot_place, unit_day, slot_date, slot_count, slot_words, words_at, stray_list, recorded_indices, covered_words, recorded_words}
use Rattle.unit_minutes.specs.Image.{Notes, IsNotes, Agrees, IsFound, IsFoundDay, IsStray}
use Rattle.unit_model.specs.Writing.{behind_index, free_place}
use Rattle.unit_minutes.specs.Reading.{AreRight, nth_index}
use Rattle.unit_model.proofs.Words.{words_split}
use Rattle.unit_model.proofs.Turning.{behind_length}
use Rattle.unit_model.proofs.Recorded.{date_in, each_get}

le_true : (a b : ℕ) → a ≤ b → nat_le a b ≡ true
le_true a b is = grind (arith, nat_tests)

le_false : (a b : ℕ) → b < a → nat_le a b ≡ false
le_false a b is = grind (arith, nat_tests)

same_true : (a b : ℕ) → a ≡ b → (a == b) ≡ true
same_true a b is = grind (arith, nat_tests)

pub ne_true : (a b : ℕ) → a ≢ b → (a == b) ≡ false
ne_true a b is = grind (arith, nat_tests)

-- lists by their indices
get_drop : (n : ℕ) (xs : List ℕ) (k : ℕ) → slice_get (drop n xs) k ≡ slice_get xs (n + k)
get_drop zero xs k = ap (slice_get xs) (let e : k ≡ 0 + k = omega arith in e)
get_drop (suc n) [] k = refl
get_drop (suc n) (x ∷ xs) k = get_drop n xs k ∙ ap (slice_get (x ∷ xs)) (let e : suc (n + k) ≡ suc n + k = omega arith in e)

get_front : (xs ys : List ℕ) (k : ℕ) → k < length xs → slice_get (xs ++ ys) k ≡ slice_get xs k
get_front [] ys k less = absurd (omega (arith, less))
get_front (x ∷ xs) ys zero less = refl
get_front (x ∷ xs) ys (suc k) less = get_front xs ys k (omega (arith, less))

get_behind : (xs ys : List ℕ) (k : ℕ) → slice_get (xs ++ ys) (length xs + k) ≡ slice_get ys k
get_behind [] ys k = ap (slice_get ys) (let e : 0 + k ≡ k = omega arith in e)
get_behind (x ∷ xs) ys k = ap (slice_get (x ∷ (xs ++ ys))) (let e : suc (length xs) + k ≡ suc (length xs + k) = omega arith in e) ∙ get_behind xs ys k

get_range : (a n k : ℕ) → k < n → slice_get (range_with_len a n) k ≡ Some (a + k)
get_range a n k less = slice_get-get_or (range_with_len a n) k 0 (omega (arith, less, length-range_with_len a n)) ∙ ap Some (get_or-range_with_len a n k 0 less)

get_last : (xs : List ℕ) (i k : ℕ) → k ≡ length xs → slice_get (xs ++ i ∷ []) k ≡ Some i
get_last xs i k is = ap (slice_get (xs ++ i ∷ [])) (let e : k ≡ length xs + 0 = omega (arith, is) in e) ∙ get_behind xs (i ∷ []) 0

filter_all : (p : ℕ → Bool) (xs : List ℕ) → Each (λ i. p i ≡ true) xs → filter p xs ≡ xs
filter_all p [] all = refl
filter_all p (x ∷ xs) all = ap (λ (b : Bool). cond b (x ∷ filter p xs) (filter p xs)) all.0 ∙ ap (λ (l : List ℕ). x ∷ l) (filter_all p xs all.1)

filter_no : (p : ℕ → Bool) (xs : List ℕ) → Each (λ i. p i ≡ false) xs → filter p xs ≡ []
filter_no p [] all = refl
filter_no p (x ∷ xs) all = ap (λ (b : Bool). cond b (x ∷ filter p xs) (filter p xs)) all.0 ∙ filter_no p xs all.1

each_map : (P Q : ℕ → Type 0) (xs : List ℕ) → ((i : ℕ) → P i → Q i) → Each P xs → Each Q xs
each_map P Q [] weaker all = tt
each_map P Q (x ∷ xs) weaker all = (weaker x all.0, each_map P Q xs weaker all.1)

-- the indices behind one
behind_get : (i m : ℕ) → i < DAY_SLOTS → m < DAY_SLOTS - 1 → slice_get (behind_index i) m ≡ Some ((i + 1 + m) % DAY_SLOTS)
behind_get i m below less = ⊎_elim near far (cases_lt m (DAY_SLOTS - 1 - i))
  where
    near : m < DAY_SLOTS - 1 - i → slice_get (range_with_len (i + 1) (DAY_SLOTS - (i + 1)) ++ range_with_len 0 i) m ≡ Some ((i + 1 + m) % DAY_SLOTS)
    near before =
        get_front (range_with_len (i + 1) (DAY_SLOTS - (i + 1))) (range_with_len 0 i) m (omega (arith, before, length-range_with_len (i + 1) (DAY_SLOTS - (i + 1))))
        ∙ get_range (i + 1) (DAY_SLOTS - (i + 1)) m (omega (arith, before)) ∙ ap Some (let e : i + 1 + m ≡ (i + 1 + m) % DAY_SLOTS = omega (arith, before) in e)

    far : DAY_SLOTS - 1 - i ≤ m → slice_get (range_with_len (i + 1) (DAY_SLOTS - (i + 1)) ++ range_with_len 0 i) m ≡ Some ((i + 1 + m) % DAY_SLOTS)
    far after =
        let k = m - (DAY_SLOTS - 1 - i) in
        ap (slice_get (range_with_len (i + 1) (DAY_SLOTS - (i + 1)) ++ range_with_len 0 i)) (let e : m ≡ length (range_with_len (i + 1) (DAY_SLOTS - (i + 1))) + k = omega (arith, after, below, length-range_with_len (i + 1) (DAY_SLOTS - (i + 1))) in e)
        ∙ get_behind (range_with_len (i + 1) (DAY_SLOTS - (i + 1))) (range_with_len 0 i) k
        ∙ get_range 0 i k (omega (arith, after, less)) ∙ ap Some (let e : 0 + k ≡ (i + 1 + m) % DAY_SLOTS = omega (arith, after, less, below) in e)

older_get : (i missing n : ℕ) → i < DAY_SLOTS → missing + n < DAY_SLOTS - 1 → slice_get (drop missing (behind_index i)) n ≡ Some ((i + 1 + missing + n) % DAY_SLOTS)
older_get i missing n below less =
    get_drop missing (behind_index i) n ∙ behind_get i (missing + n) below less ∙ ap (λ (v : ℕ). Some (v % DAY_SLOTS)) (let e : i + 1 + (missing + n) ≡ i + 1 + missing + n = omega arith in e)

-- What the notes say of the recorded days: where they stand, that the last one is the last-kept minute's, and which of its words count.
pub record AreShown (j : Notes) (x : List ℕ) : Type 0 where
  pub kept : last_kept x ≡ j.kept
  pub len : length (recorded_indices x) ≡ j.day_count
  pub at : (n : ℕ) → n < j.day_count → slice_get (recorded_indices x) n ≡ Some (nth_index j n)
  pub last : 0 < j.day_count → nth_index j (j.day_count - 1) ≡ j.index
  pub earlier : (n : ℕ) → n + 1 < j.day_count → slot_date x (nth_index j n) / 86400 < j.kept / 1440
  pub date : 0 < j.day_count → slot_date x j.index ≡ 86400 * (j.kept / 1440)
  pub words : 0 < j.day_count → recorded_words x j.index ≡ slot_words x j.index j.count

dates_before : (x : List ℕ) (k : ℕ) (js : List ℕ) → Each (λ d. day_of d < k) (map (λ i. unit_day (entry_at day_ring x i)) js) → Each (λ i. slot_date x i / 86400 < k) js
dates_before x k [] all = tt
dates_before x k (i ∷ js) all = (omega (arith, all.0, date_in x i), dates_before x k js all.1)

module _ (j : Notes) (ok : IsNotes j) (stray : Option ℕ) (stored : ℕ) (x : List ℕ) (found : IsFound j stray stored x) where
  abbrev p : ℕ → Bool
  p i = nat_le (slot_date x i / 86400) (last_kept x / 1440)

  -- a later day is not recorded
  stray_out : (s : Option ℕ) → MatchOption s (Unit {0}) (λ s. IsStray j x s) → filter p (stray_list s) ≡ []
  stray_out None apart = refl
  stray_out (Some s) apart = filter_none p s (le_false (slot_date x s / 86400) (last_kept x / 1440) (omega (arith, apart.later, date_in x s, found.kept)))

  recorded_none : j.kept ≡ 0 → recorded_indices x ≡ []
  unfolding recorded_indices
  recorded_none first = ap (filter p) (found.none first) ∙ stray_out stray found.apart

  module _ (some : 0 < j.kept) where
    abbrev older : List ℕ
    older = (found.newest some).0

    day : IsFoundDay j stray stored x older
    day = (found.newest some).1

    before : Each (λ i. slot_date x i / 86400 < j.kept / 1440) older
    before = dates_before x (j.kept / 1440) older day.earlier

    recorded_some : recorded_indices x ≡ older ++ j.index ∷ []
    unfolding recorded_indices
    recorded_some =
        ap (filter p) day.order_is ∙ filter-append p (older ++ j.index ∷ []) (stray_list stray)
        ∙ ap (λ (l : List ℕ). filter p (older ++ j.index ∷ []) ++ l) (stray_out stray found.apart) ∙ append-nil (filter p (older ++ j.index ∷ []))
        ∙ filter_last p older j.index (le_true (slot_date x j.index / 86400) (last_kept x / 1440) (omega (arith, day.date, found.kept)))
        ∙ ap (λ (l : List ℕ). l ++ j.index ∷ []) (filter_all p older (each_map (λ i. slot_date x i / 86400 < j.kept / 1440) (λ i. p i ≡ true) older
        (λ i less. le_true (slot_date x i / 86400) (last_kept x / 1440) (omega (arith, less, found.kept))) before))

    abbrev missing : ℕ
    missing = day.dense.0

    older_is : older ≡ drop missing (behind_index j.index)
    older_is = day.dense.2

    missing_is : missing + j.day_count ≡ DAY_SLOTS
    missing_is = omega (arith, day.days, ap length older_is, length-drop missing (behind_index j.index), behind_length j.index ok.index, day.dense.1)

    older_at : (n : ℕ) → n + 1 < j.day_count → slice_get older n ≡ Some (nth_index j n)
    older_at n less =
        ap (λ (l : List ℕ). slice_get l n) older_is ∙ older_get j.index missing n ok.index (omega (arith, less, missing_is))
        ∙ ap (λ (v : ℕ). Some (v % DAY_SLOTS)) (let e : j.index + 1 + missing + n ≡ j.index + 367 - j.day_count + n = omega (arith, missing_is) in e)

    last_is : nth_index j (j.day_count - 1) ≡ j.index
    last_is = omega (arith, day.days, ok.index, ok.day_count)

    at_some : (n : ℕ) → n < j.day_count → slice_get (recorded_indices x) n ≡ Some (nth_index j n)
    at_some n less = ap (λ (l : List ℕ). slice_get l n) recorded_some ∙ ⊎_elim
        (λ early. get_front older (j.index ∷ []) n (omega (arith, early, day.days)) ∙ older_at n early)
        (λ late. let here : n ≡ j.day_count - 1 = omega (arith, late, less) in get_last older j.index n (omega (arith, here, day.days)) ∙ ap Some (sym last_is ∙ ap (nth_index j) (sym here)))
        (cases_lt (n + 1) j.day_count)

    words_some : recorded_words x j.index ≡ slot_words x j.index j.count
    words_some =
        let on : (slot_date x j.index / 86400 == last_kept x / 1440) ≡ true = same_true (slot_date x j.index / 86400) (last_kept x / 1440) (omega (arith, day.date, found.kept)) in
        let q = λ (w : ℕ). nat_le (word_minute w) (last_kept x % 1440) in
        let stored_is : min (slot_count x j.index) DAY_WORD_LIMIT ≡ j.count + (stored - j.count) = omega (arith, day.count, day.stored_few, day.cut) in
        let rest = words_at x (free_place j.index j.count) (stored - j.count) in
        ap (λ (b : Bool). cond b (filter q (covered_words x j.index)) (covered_words x j.index)) on
        ∙ ap (λ (n : ℕ). filter q (slot_words x j.index n)) stored_is ∙ ap (filter q) (words_split x (slot_place j.index + DAY_WORDS.place) j.count (stored - j.count))
        ∙ filter-append q (slot_words x j.index j.count) rest
        ∙ ap (λ (l : List ℕ). l ++ filter q rest) (filter_all q (slot_words x j.index j.count) (each_map (λ w. word_minute w ≤ j.kept % 1440) (λ w. q w ≡ true) (slot_words x j.index j.count)
        (λ w low. le_true (word_minute w) (last_kept x % 1440) (omega (arith, low, found.kept))) day.low))
        ∙ ap (λ (l : List ℕ). slot_words x j.index j.count ++ l) (filter_no q rest (each_map (λ w. j.kept % 1440 < word_minute w) (λ w. q w ≡ false) rest
        (λ w late. le_false (word_minute w) (last_kept x % 1440) (omega (arith, late, found.kept))) day.late))
        ∙ append-nil (slot_words x j.index j.count)

  kept_some : 0 < j.day_count → 0 < j.kept
  kept_some some = ⊎_elim (λ more. more) (λ none. absurd (omega (arith, some, ok.no_day (omega (arith, none))))) (cases_lt 0 j.kept)

  shown_found : AreShown j x
  shown_found = record {
    kept = found.kept;
    len = ⊎_elim
        (λ some. omega (arith, ap length (recorded_some some), length-append (older some) (j.index ∷ []), (day some).days))
        (λ none. let first : j.kept ≡ 0 = omega (arith, none) in ap length (recorded_none first) ∙ sym (ok.no_day first))
        (cases_lt 0 j.kept);
    at = λ n less. at_some (kept_some (omega (arith, less))) n less;
    last = λ some. last_is (kept_some some);
    earlier = λ n less. let some = kept_some (omega (arith, less)) in each_get (λ i. slot_date x i / 86400 < j.kept / 1440) (older some) n (nth_index j n) (before some) (older_at some n less);
    date = λ some. (day (kept_some some)).date;
    words = λ some. words_some (kept_some some);
  }

-- after `mend` and `keep` no later day is there, and no later word
pub found_agreed : (j : Notes) (ok : IsNotes j) (x : List ℕ) → Agrees j x → IsFound j None j.count x
found_agreed j ok x agrees = record {
  kept = agrees.kept;
  odometer = agrees.odometer;
  pointer = agrees.pointer;
  none = agrees.none;
  newest = λ some.
      let js = (agrees.newest some).0 in
      let day = (agrees.newest some).1 in
      let none : j.count - j.count ≡ 0 = omega arith in (
        js,
        record {
          order_is = day.order_is ∙ sym (append-nil (js ++ j.index ∷ []));
          next_is = day.next_is;
          dense = day.dense;
          others = day.others;
          days = day.days;
          earlier = day.earlier;
          date = day.date;
          count = day.count;
          cut = omega arith;
          stored_few = omega (arith, ok.count);
          low = day.low;
          late = subst (λ (n : ℕ). Each (λ w. j.kept % 1440 < word_minute w) (words_at x (free_place j.index j.count) n)) (sym none) tt;
          driver = day.driver;
          codriver = day.codriver;
        },
      );
  apart = tt;
}

pub shown : (j : Notes) (ok : IsNotes j) (x : List ℕ) → AreRight j x → AreShown j x
shown j ok x right = ⊎_elim (λ found. shown_found j ok j.stray j.stored x found) (λ agrees. shown_found j ok None j.count x (found_agreed j ok x agrees)) right

-- how many words count
pub last_words : (j : Notes) (x : List ℕ) → AreShown j x → 0 < j.day_count → length (recorded_words x j.index) ≡ j.count
last_words j x s some = ap length (s.words some) ∙ length-map-range_with_len (λ k. number_at x (slot_place j.index + DAY_WORDS.place + 2 * k) 2) 0 j.count

pub older_words : (j : Notes) (x : List ℕ) (n : ℕ) → AreShown j x → n + 1 < j.day_count → recorded_words x (nth_index j n) ≡ covered_words x (nth_index j n)
older_words j x n s less =
    let i = nth_index j n in
    let q = λ (w : ℕ). nat_le (word_minute w) (last_kept x % 1440) in
    let early = s.earlier n less in
    ap (λ (b : Bool). cond b (filter q (covered_words x i)) (covered_words x i)) (ne_true (slot_date x i / 86400) (last_kept x / 1440) (λ same. absurd (omega (arith, same, early, s.kept))))

pub older_count : (j : Notes) (x : List ℕ) (n : ℕ) → AreShown j x → n + 1 < j.day_count → length (recorded_words x (nth_index j n)) ≡ min (slot_count x (nth_index j n)) DAY_WORD_LIMIT
older_count j x n s less =
    ap length (older_words j x n s less) ∙ length-map-range_with_len (λ k. number_at x (slot_place (nth_index j n) + DAY_WORDS.place + 2 * k) 2) 0 (min (slot_count x (nth_index j n)) DAY_WORD_LIMIT)

-- the words of a recorded day stand one after the other
words_stand : (j : Notes) (x : List ℕ) (n i : ℕ) → AreShown j x → slice_get (recorded_indices x) n ≡ Some i → (count : ℕ) × (recorded_words x i ≡ slot_words x i count)
words_stand j x n i s is = ⊎_elim early last (cases_lt (n + 1) j.day_count)
  where
    below : n < j.day_count
    below = omega (arith, slice_get_within (recorded_indices x) n i is, s.len)

    same : nth_index j n ≡ i
    same = let both : Some (nth_index j n) ≡ Some i = sym (s.at n below) ∙ is in cc

    early : n + 1 < j.day_count → (count : ℕ) × (recorded_words x i ≡ slot_words x i count)
    early less = (min (slot_count x i) DAY_WORD_LIMIT, subst (λ (k : ℕ). recorded_words x k ≡ covered_words x k) same (older_words j x n s less))

    last : j.day_count ≤ n + 1 → (count : ℕ) × (recorded_words x i ≡ slot_words x i count)
    last le =
        let here : n ≡ j.day_count - 1 = omega (arith, le, below) in
        let index_is : j.index ≡ i = sym (s.last (omega (arith, below))) ∙ ap (nth_index j) (sym here) ∙ same in
        (j.count, subst (λ (k : ℕ). recorded_words x k ≡ slot_words x k j.count) index_is (s.words (omega (arith, below))))

pub word_at : (j : Notes) (x : List ℕ) (n i k : ℕ) → AreShown j x → slice_get (recorded_indices x) n ≡ Some i → k < length (recorded_words x i) → slice_get (recorded_words x i) k ≡ Some (number_at x (slot_place i + DAY_WORDS.place + 2 * k) 2)
word_at j x n i k s is less =
    let stand = words_stand j x n i s is in
    let f = λ (q : ℕ). number_at x (slot_place i + DAY_WORDS.place + 2 * q) 2 in
    let few : k < stand.0 = omega (arith, less, ap length stand.1, length-map-range_with_len f 0 stand.0) in
    ap (λ (l : List ℕ). slice_get l k) stand.1 ∙ slice_get-get_or (slot_words x i stand.0) k 0 (omega (arith, few, length-map-range_with_len f 0 stand.0))
    ∙ ap Some (get_or-map-range_with_len f 0 stand.0 k k 0 few (omega arith))

-- no recorded day has a date that none of these has
pub no_such_date : (j : Notes) (x : List ℕ) (date : ℕ) → AreShown j x → ((n : ℕ) → n < j.day_count → slot_date x (nth_index j n) ≢ date) → All (λ i. slot_date x i ≢ date) (recorded_indices x)
no_such_date j x date s none n d less =
    let below : n < j.day_count = omega (arith, less, s.len) in
    subst (λ (i : ℕ). slot_date x i ≢ date) (sym (get_or_from_slice_get (recorded_indices x) n (nth_index j n) d (s.at n below))) (none n below)

-- nor where it is later than the last one's, nor where that one and the earlier ones have not
pub last_date : (j : Notes) (x : List ℕ) (n : ℕ) → AreShown j x → n < j.day_count → slot_date x (nth_index j n) ≤ 86400 * (j.kept / 1440)
last_date j x n s less = ⊎_elim
    (λ early. omega (arith, s.earlier n early))
    (λ late.
    let here : n ≡ j.day_count - 1 = omega (arith, late, less) in
    let date_is : slot_date x (nth_index j n) ≡ 86400 * (j.kept / 1440) = ap (slot_date x) (ap (nth_index j) here ∙ s.last (omega (arith, less))) ∙ s.date (omega (arith, less)) in
    omega (arith, date_is))
    (cases_lt (n + 1) j.day_count)

pub no_later_date : (j : Notes) (x : List ℕ) (date : ℕ) → AreShown j x → 86400 * (j.kept / 1440) < date → All (λ i. slot_date x i ≢ date) (recorded_indices x)
no_later_date j x date s later = no_such_date j x date s (λ n less same. omega (arith, last_date j x n s less, later, same))

pub no_older_date : (j : Notes) (x : List ℕ) (date : ℕ) → AreShown j x → date ≢ 86400 * (j.kept / 1440) → ((n : ℕ) → n < j.day_count - 1 → slot_date x (nth_index j n) ≢ date) → All (λ i. slot_date x i ≢ date) (recorded_indices x)
no_older_date j x date s other none = no_such_date j x date s (λ n less. ⊎_elim
    (λ early. none n (omega (arith, early)))
    (λ late same.
    let here : n ≡ j.day_count - 1 = omega (arith, late, less) in
    other (sym same ∙ ap (slot_date x) (ap (nth_index j) here ∙ s.last (omega (arith, less))) ∙ s.date (omega (arith, less))))
    (cases_lt (n + 1) j.day_count))

-- a number of two bytes
pub two_bytes : (x : List ℕ) (p w : ℕ) (b : List ℕ) → b ≡ bytes_at x p 2 → w ≡ get_or b 0 0 * 256 + get_or b 1 0 → w ≡ number_at x p 2
two_bytes x p w b is value = omega (arith, value, ap (λ (l : List ℕ). get_or l 0 0) is, ap (λ (l : List ℕ). get_or l 1 0) is)
