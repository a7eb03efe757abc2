-- A mark that lies in a later day than the newest of the string, as another unit may have left it: a stopped keep on the mark's day leaves that
-- day with its first word alone. It is not expected until the entry is kept, and the entry that comes next must lie in it.
use Rattle.std.proofs.Common.{◌≡◌, inr, ⊎_elim, ℕ, suc, ◌+◌, ◌-◌, ◌*◌, ◌/◌, ◌%◌, ◌<◌, ◌≤◌, Bool, true, false, cond, not, ◌&&◌, ◌||◌, List, [], ◌∷◌, ◌++◌, length, refl, sym, ◌∙◌, ap, subst, arith}
use Rattle.std.specs.Prelude.{nat_eq, nat_lt, nat_le}
use Rattle.std.proofs.lemmas.Bool.Decides.{nat_tests}
use Rattle.activity_codec.specs.declared.entries.Entry.{Entry}
use Rattle.activity_codec.specs.Words.{word_absent, word_minute}
use Rattle.card_model.specs.Days.{Day, AreDays, last_word}
use Rattle.card_model.specs.Changes.{Remain, fitting, with_newest, with_word, new_day, until, early, with_early, cut, date_of, trimmed}
use Rattle.card_retention.specs.Expected.{WordDay, size_of, one_more, more, is_newest, first_words, adds, Counted, with_entry, expected_days}
use Rattle.card_retention.specs.Shown.{Bound, InDays, AllFrom, AllIn, Shows, Left, Rising, AllBefore, sizes, size_day, entry_state, is_open, TellsIn, Tells, Rests, Lives, with_closing}
use Rattle.card_retention.specs.Retains.{is_day, entries_in, begun_on, CardRetains}
use Rattle.card_model.proofs.Retention.{remain_fitting}
use Rattle.card_retention.proofs.Growing.{Young, shows_young, left_of, sizes_word, sizes_append, more_back}
use Rattle.card_model.proofs.Trims.{cut_date}
use Rattle.card_retention.proofs.Retaining.{covers_from, same_entries}
use Rattle.card_retention.proofs.Stops.{stop_between}
use Rattle.card_retention.proofs.Entering.{with_all, closes_is, rising_more, begins, marked_rests, on_word, on_fitting, on_append, last_append, fits_sizes, before_not, before_more, before_back}

-- the string is these days, and a day of the mark with one word, later than each that is expected
pub record Stubbed (size : ℕ) (slack : Bound) (covered from mark : ℕ) (c : Counted) (days : List Day) : Type 0 where
  pub older : List Day
  pub young : Day
  pub is : days ≡ older ++ young ∷ []
  pub rests : Rests size slack covered from mark c older
  pub date : young.date ≡ date_of mark
  pub one : length young.words ≡ 1
  pub before : AllBefore (mark / 1440) (sizes older)
  pub fresh : AllBefore (mark / 1440) c.days

shut_before : (mark date : ℕ) (ds : List Day) → AreDays date ds → AllBefore (mark / 1440) (sizes ds) → is_open mark ds ≡ false
shut_before mark date [] are b = refl
shut_before mark date (d ∷ []) are b = by (nat_eq d.date (date_of (suc mark))) (apart d.date (date_of (suc mark)) (omega (arith, are.1.midnight, b.0)))
  where
    apart : (m n : ℕ) → m < n → nat_eq m n ≡ false
    apart m n lt = grind (arith, nat_tests)

    by : (a : Bool) → a ≡ false → a && not (word_absent (last_word d.words)) ≡ false
    by false is = refl
    by true is = absurd (cc)
shut_before mark date (d ∷ e ∷ ds) are b = shut_before mark d.date (e ∷ ds) are.2 b.1

-- HOW IT COMES: a day of the mark that was begun and not committed, as a repair leaves it
all_kept : (mark : ℕ) (ds es : List Day) (date : ℕ) → AreDays date ds → AllBefore (mark / 1440) (sizes ds) → until (date_of mark) (ds ++ es) ≡ ds ++ until (date_of mark) es
all_kept mark [] es date are b = refl
all_kept mark (d ∷ ds) es date are b = ap (λ (c : Bool). cond c (d ∷ until (date_of mark) (ds ++ es)) []) (at_most d.date (date_of mark) (omega (arith, b.0, are.1.midnight))) ∙ ap (λ (l : List Day). d ∷ l) (all_kept mark ds es d.date are.2 b.1)
  where
    at_most : (m n : ℕ) → m ≤ n → nat_le m n ≡ true
    at_most m n le = grind (arith, nat_tests)

newest_of_all : (f : Day → Day) (ds : List Day) (d : Day) → with_newest f (ds ++ d ∷ []) ≡ ds ++ f d ∷ []
newest_of_all f [] d = refl
newest_of_all f (e ∷ []) d = refl
newest_of_all f (e ∷ g ∷ ds) d = ap (λ (l : List Day). e ∷ l) (newest_of_all f (g ∷ ds) d)

uncut : (mark : ℕ) (ds : List Day) (date : ℕ) → AreDays date ds → AllBefore (mark / 1440) (sizes ds) → with_newest (cut mark) ds ≡ ds
uncut mark [] date are b = refl
uncut mark (d ∷ []) date are b = ap (λ (c : Bool). cond c (with_early (mark % 1440) d) d ∷ []) (apart d.date (date_of mark) (omega (arith, b.0, are.1.midnight)))
  where
    apart : (m n : ℕ) → m < n → nat_eq m n ≡ false
    apart m n lt = grind (arith, nat_tests)
uncut mark (d ∷ e ∷ ds) date are b = ap (λ (l : List Day). d ∷ l) (uncut mark (e ∷ ds) d.date are.2 b.1)

nothing_after : (ds : List Day) → ds ++ [] ≡ ds
nothing_after [] = refl
nothing_after (d ∷ ds) = ap (λ (l : List Day). d ∷ l) (nothing_after ds)

pub trimmed_before : (mark : ℕ) (ds : List Day) → AreDays 0 ds → AllBefore (mark / 1440) (sizes ds) → trimmed mark ds ≡ ds
trimmed_before mark ds are b = ap (λ (l : List Day). with_newest (cut mark) (until (date_of mark) l)) (sym (nothing_after ds)) ∙ ap (λ (l : List Day). with_newest (cut mark) l) (all_kept mark ds [] 0 are b ∙ nothing_after ds) ∙ uncut mark ds 0 are b

pub trimmed_stub : (mark : ℕ) (ds : List Day) (d : Day) → AreDays 0 ds → AllBefore (mark / 1440) (sizes ds) → d.date ≡ date_of mark → trimmed mark (ds ++ d ∷ []) ≡ ds ++ cut mark d ∷ []
trimmed_stub mark ds d are b at =
    ap (λ (l : List Day). with_newest (cut mark) l) (all_kept mark ds (d ∷ []) 0 are b ∙ ap (λ (c : Bool). ds ++ cond c (d ∷ []) []) (at_most d.date (date_of mark) (omega (arith, at)))) ∙ newest_of_all (cut mark) ds d
  where
    at_most : (m n : ℕ) → m ≤ n → nat_le m n ≡ true
    at_most m n le = grind (arith, nat_tests)

-- of two words the second of which is behind the mark one is left
cut_one : (mark : ℕ) (d : Day) (w v : ℕ) → d.date ≡ date_of mark → d.words ≡ w ∷ v ∷ [] → word_minute w ≡ 0 → mark % 1440 < word_minute v → length (cut mark d).words ≡ 1
cut_one mark d w v at words first lt =
    ap (λ (c : Bool). length (cond c (with_early (mark % 1440) d) d).words) (same d.date (date_of mark) at)
    ∙ ap (λ (ws : List ℕ). length (early (mark % 1440) ws)) words
    ∙ ap (λ (c : Bool). length (cond c (w ∷ cond (nat_le (word_minute v) (mark % 1440)) (v ∷ []) []) [])) (at_most (word_minute w) (mark % 1440) (omega (arith, first)))
    ∙ ap (λ (c : Bool). length (w ∷ cond c (v ∷ []) [])) (above (word_minute v) (mark % 1440) lt)
  where
    same : (m n : ℕ) → m ≡ n → nat_eq m n ≡ true
    same m n is = grind (arith, nat_tests)

    at_most : (m n : ℕ) → m ≤ n → nat_le m n ≡ true
    at_most m n le = grind (arith, nat_tests)

    above : (m n : ℕ) → n < m → nat_le m n ≡ false
    above m n lt = grind (arith, nat_tests)

pub stub_comes : (size : ℕ) (slack : Bound) (covered from mark : ℕ) (c : Counted) (days : List Day) (l : Lives size slack covered from mark c days) (e : Entry) → from ≤ e.minute → 5544 ≤ size → 16 ≤ slack.bytes → e.minute / 1440 ≡ mark / 1440
    → (x w v : ℕ) (kept : List Day) → word_minute x ≡ suc mark % 1440 → Remain (size - 16) (with_closing size x mark e.minute days) kept → AreDays 0 kept → AllBefore (mark / 1440) (sizes kept) → AllBefore (mark / 1440) c.days → word_minute w ≡ 0 → word_minute v ≡ e.minute % 1440
    → (base : List Day) → Stubbed size slack covered e.minute mark c (trimmed mark (kept ++ new_day base (date_of e.minute) (w ∷ v ∷ []) ∷ []))
stub_comes size slack covered from mark c days l e later long least here x w v kept minute left are before fresh first second base = record {
  older = kept;
  young = cut mark (new_day base (date_of e.minute) (w ∷ v ∷ []));
  is = trimmed_stub mark kept (new_day base (date_of e.minute) (w ∷ v ∷ [])) are before date;
  rests = subst (λ (t : List Day). Rests size slack covered e.minute mark c t) (trimmed_before mark kept are before)
      (stop_between size slack covered from mark c days l e.minute later long least x (size - 16) kept minute (omega (arith, long)) (omega (arith, least)) left);
  date = cut_date mark (new_day base (date_of e.minute) (w ∷ v ∷ [])) ∙ date;
  one = cut_one mark (new_day base (date_of e.minute) (w ∷ v ∷ [])) w v date refl first (omega (arith, second, here, later, l.rests.later));
  before = before;
  fresh = fresh;
}
  where
    date : e.minute / 1440 * 86400 ≡ date_of mark
    date = ap (λ (n : ℕ). n * 86400) here

module _ (size : ℕ) (slack : Bound) (covered from mark : ℕ) (c : Counted) (days : List Day) (t : Stubbed size slack covered from mark c days) (e : Entry) (later : from ≤ e.minute) (here : e.minute / 1440 ≡ mark / 1440) (long : 5544 ≤ size) (least : 16 ≤ slack.bytes) where
  -- the entry's word on that day, and the commit
  pub stub_kept : (v : ℕ) → v / 2048 ≡ entry_state e → AreDays 0 t.older → AreDays 0 (t.older ++ t.young ∷ []) → AreDays 0 (with_newest (with_word v) (fitting (size - 2) (t.older ++ t.young ∷ [])))
      → Rests size (with_all slack e) covered (suc e.minute) e.minute (with_entry covered c e) (with_newest (with_word v) (fitting (size - 2) (t.older ++ t.young ∷ [])))
  stub_kept v state are_older are after_are =
      marked_rests size slack covered from mark c t.older t.rests e later long least 0 (closed_are (is_open mark t.older) (nat_lt (suc mark) e.minute) shut)
      (with_newest (with_word v) (fitting (size - 2) (t.older ++ t.young ∷ []))) after_are tells
      (subst (λ (l : List WordDay). Shows size slack (adds c.before e (expected_days covered e.minute c)) l) (sym all_sizes)
      (begins size slack covered from mark c t.older t.rests e later long least young.rest (one_more (size_day t.young)) (omega (arith, t.date, here)) words
      (young.before (e.minute / 1440) (subst (λ (k : ℕ). AllBefore k (sizes t.older)) (sym here) t.before)) (none (is_newest (e.minute / 1440) (sizes t.older)) refl) young.shows))
    where
      shut : is_open mark t.older ≡ false
      shut = shut_before mark 0 t.older are_older t.before

      closed_are : (o g : Bool) → o ≡ false → AreDays 0 (cond (o && g) (with_newest (with_word 0) (fitting (size - 2) t.older)) t.older)
      closed_are false g is = are_older
      closed_are true g is = absurd (cc)

      words : length t.young.words + 1 ≤ first_words e.minute
      words = by (nat_eq (e.minute % 1440) 0) refl
        where
          at : (m : ℕ) → nat_eq m 0 ≡ true → m ≡ 0
          at m is = grind (arith, nat_tests)

          by : (b : Bool) → nat_eq (e.minute % 1440) 0 ≡ b → length t.young.words + 1 ≤ cond b 1 2
          by true is = absurd (omega (arith, at (e.minute % 1440) is, here, later, t.rests.later))
          by false is = omega (arith, t.one)

      none : (b : Bool) → is_newest (e.minute / 1440) (sizes t.older) ≡ b → is_newest (e.minute / 1440) (sizes t.older) ≡ false
      none false is = is
      none true is = absurd (before_not (e.minute / 1440) (sizes t.older) (subst (λ (k : ℕ). AllBefore k (sizes t.older)) (sym here) t.before) is)

      owed : Shows size slack (expected_days covered e.minute c) (sizes t.older)
      owed = subst (λ (o : Bool). Shows size slack (expected_days covered e.minute c) (cond (o && nat_lt (suc mark) e.minute) (more (sizes t.older)) (sizes t.older))) shut (t.rests.shows e.minute later)

      young : Young size slack (expected_days covered e.minute c) (sizes t.older) (size_day t.young) (sizes (fitting (size - 2) (t.older ++ t.young ∷ [])))
      young = shows_young size slack (size - 2) (expected_days covered e.minute c) (sizes t.older) (size_day t.young) (sizes (fitting (size - 2) (t.older ++ t.young ∷ []))) (omega (arith, long, least, t.one)) (omega (arith, long, t.one))
          (fits_sizes 0 (size - 2 - size_of (size_day t.young)) t.older (omega (arith, long, t.one)) are_older).0
          (closes_is Rising covered c.before e.minute c.days t.rests.rising (rising_more c.days t.rests.rising))
          (subst (λ (l : List WordDay). Left (size - 2) l (sizes (fitting (size - 2) (t.older ++ t.young ∷ [])))) (sizes_append t.older (t.young ∷ [])) (left_of (size - 2) (t.older ++ t.young ∷ []) (fitting (size - 2) (t.older ++ t.young ∷ [])) (remain_fitting (size - 2) (t.older ++ t.young ∷ [])))) owed

      all_sizes : sizes (with_newest (with_word v) (fitting (size - 2) (t.older ++ t.young ∷ []))) ≡ young.rest ++ one_more (size_day t.young) ∷ []
      all_sizes = sizes_word v (fitting (size - 2) (t.older ++ t.young ∷ [])) ∙ ap more young.is ∙ more_back young.rest (size_day t.young) []

      tells : Tells e (with_newest (with_word v) (fitting (size - 2) (t.older ++ t.young ∷ [])))
      tells = on_word (λ d. d.date ≡ date_of mark) (TellsIn e) v (fitting (size - 2) (t.older ++ t.young ∷ [])) (λ d is. record { date = is ∙ ap (λ (n : ℕ). n * 86400) (sym here); state = ap (λ (n : ℕ). n / 2048) (last_append d.words v) ∙ state })
          (on_fitting (λ d. d.date ≡ date_of mark) (size - 2) (t.older ++ t.young ∷ []) (fits_sizes 0 (size - 2) (t.older ++ t.young ∷ []) (omega (arith, long)) are).0 (on_append (λ d. d.date ≡ date_of mark) t.older t.young t.date))

-- THE RULE AS STATED, of such a string: an entry on that day would be of all, and is not there
not_day : (k : ℕ) (ws : List WordDay) → AllBefore k ws → is_day k ws ≡ false
not_day k [] b = refl
not_day k (w ∷ ws) b = by (nat_eq w.day k) (apart w.day k b.0) (not_day k ws b.1)
  where
    apart : (m n : ℕ) → m < n → nat_eq m n ≡ false
    apart m n lt = grind (arith, nat_tests)

    by : (a : Bool) → a ≡ false → is_day k ws ≡ false → a || is_day k ws ≡ false
    by false is rest = rest
    by true is rest = absurd (cc)

not_in : (k : ℕ) (ws : List WordDay) → AllBefore k ws → InDays k ws → ⊥
not_in k [] b i = i
not_in k (w ∷ ws) b i = ⊎_elim (λ at. omega (arith, at, b.0)) (λ later. not_in k ws b.1 later) i

low_oldest : (k o : ℕ) (there : List WordDay) → AllBefore k there → AllFrom o there → (there ≡ [] → o ≡ 0) → o ≤ k
low_oldest k o [] b f none = omega (arith, none refl)
low_oldest k o (t ∷ ts) b f none = omega (arith, b.0, f.0)

none_on : (k o : ℕ) (all : List Entry) (ws : List WordDay) → o ≤ k → AllBefore k ws → AllIn o all ws → entries_in (begun_on k ∷ []) all ≡ []
none_on k o [] ws le b w = refl
none_on k o (e ∷ es) ws le b w = by (nat_eq k (e.minute / 1440)) refl (none_on k o es ws le b w.1)
  where
    same : (m n : ℕ) → nat_eq m n ≡ true → m ≡ n
    same m n is = grind (arith, nat_tests)

    by : (a : Bool) → nat_eq k (e.minute / 1440) ≡ a → entries_in (begun_on k ∷ []) es ≡ [] → cond (a || false) (e ∷ entries_in (begun_on k ∷ []) es) (entries_in (begun_on k ∷ []) es) ≡ []
    by false is rest = rest
    by true is rest = absurd (not_in (e.minute / 1440) ws (subst (λ (m : ℕ). AllBefore m ws) (same k (e.minute / 1440) is) b) (w.0 (omega (arith, le, same k (e.minute / 1440) is))))

pub stub_retains : (size : ℕ) (slack : Bound) (covered from mark : ℕ) (c : Counted) (days : List Day) (t : Stubbed size slack covered from mark c days) → AreDays 0 t.older → (n : ℕ) → from ≤ n
    → (shown : List Entry) → shown ≡ entries_in (sizes t.older) slack.all → CardRetains size slack.bytes (mark / 1440) (expected_days covered n c) slack.all (sizes days) shown
stub_retains size slack covered from mark c days t are n le shown is = record {
  gone = s.gone;
  there = s.there;
  split = s.split;
  covers = inr (record {
    older = sizes t.older;
    newest = ap sizes t.is ∙ sizes_append t.older (t.young ∷ []) ∙ ap (λ (d : WordDay). sizes t.older ++ d ∷ []) one_word;
    before = t.before;
    covers = s.covers;
    further = not_day (mark / 1440) (expected_days covered n c) low;
    empty = none_on (mark / 1440) s.oldest slack.all (sizes t.older) (low_oldest (mark / 1440) s.oldest s.there there s.high s.none) t.before s.whole;
  });
  full = s.full;
  some = s.some;
  oldest = s.oldest;
  low = s.low;
  high = s.high;
  none = s.none;
  entries = is ∙ same_entries s.oldest slack.all (sizes t.older) (sizes t.older) s.whole (covers_from s.oldest s.there (sizes t.older) s.high s.covers) (λ k. refl);
}
  where
    s : Shows size slack (expected_days covered n c) (sizes t.older)
    s = subst (λ (o : Bool). Shows size slack (expected_days covered n c) (cond (o && nat_lt (suc mark) n) (more (sizes t.older)) (sizes t.older))) (shut_before mark 0 t.older are t.before) (t.rests.shows n le)

    low : AllBefore (mark / 1440) (expected_days covered n c)
    low = closes_is (λ l. AllBefore (mark / 1440) l) covered c.before n c.days t.fresh (before_more (mark / 1440) c.days t.fresh)

    there : AllBefore (mark / 1440) s.there
    there = before_back (mark / 1440) s.gone s.there (subst (λ (l : List WordDay). AllBefore (mark / 1440) l) s.split low)

    one_word : size_day t.young ≡ begun_on (mark / 1440)
    one_word = ap (λ (k : ℕ). record { day = k; words = length t.young.words }) (omega (arith, t.date)) ∙ ap (λ (n : ℕ). record { day = mark / 1440; words = n }) t.one
