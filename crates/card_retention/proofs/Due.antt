-- Entries that come next, and are not on the card yet, count as there; entries by hand are words more of their days.
use Rattle.std.proofs.Common.{◌≡◌, ◌⊎◌, inl, inr, ⊎_elim, ℕ, suc, ◌+◌, ◌%◌, ◌/◌, ◌<◌, ◌≤◌, Bool, true, false, cond, ◌||◌, Option, Some, None, List, [], ◌∷◌, ◌++◌, All, refl, sym, ◌∙◌, ap, subst, arith, append_assoc}
use Rattle.std.specs.Prelude.{nat_eq, nat_le}
use Rattle.std.proofs.lemmas.Bool.Decides.{nat_tests}
use Rattle.std.proofs.lemmas.Bool.{cases_lt, le-leb}
use Rattle.std.proofs.lemmas.List.Elements.{All-head, All-tail, All-nil, All-cons}
use Rattle.activity_codec.specs.declared.entries.Entry.{Entry}
use Rattle.activity_codec.specs.declared.entries.Manual.{Manual}
use Rattle.card_retention.specs.Expected.{WordDay, more, is_newest, goes_on, is_closed, closes, first_words, adds, Counted, with_entry, counted, expected_days}
use Rattle.card_retention.specs.ByHand.{on_day, and_by_hand}
use Rattle.card_retention.specs.Shown.{Covers, IsFull, AllBefore, AllFrom}
use Rattle.card_retention.specs.Retains.{Rise, entries_from, is_day, entries_in, begun_on, HasBegun, CardRetains}
use Rattle.card_retention.proofs.Core.{covers_more, full_more, grows_total}
use Rattle.card_retention.proofs.Growing.{more_some, append_some, more_back, more_total, more_grows, grows_longer, from_more, from_append, covers_day}
use Rattle.card_retention.proofs.Entering.{before_more, before_later, before_back, before_append}
use Rattle.card_retention.proofs.Retaining.{is_day_more}
use Rattle.card_retention.proofs.Listing.{append_in}

-- a word more, and a day more, with entries by hand
hands_more : (given : List Manual) (ws : List WordDay) → and_by_hand given (more ws) ≡ more (and_by_hand given ws)
hands_more given [] = refl
hands_more given (w ∷ []) = ap (λ (n : ℕ). record { day = w.day; words = n } ∷ []) same
  where
    same : (w.words + 1) + on_day w.day given ≡ (w.words + on_day w.day given) + 1
    same = omega arith
hands_more given (w ∷ x ∷ ws) = ap (λ (l : List WordDay). record { day = w.day; words = w.words + on_day w.day given } ∷ l) (hands_more given (x ∷ ws))

hands_append : (given : List Manual) (ws : List WordDay) (v : WordDay) → and_by_hand given (ws ++ v ∷ []) ≡ and_by_hand given ws ++ record { day = v.day; words = v.words + on_day v.day given } ∷ []
hands_append given [] v = refl
hands_append given (w ∷ ws) v = ap (λ (l : List WordDay). record { day = w.day; words = w.words + on_day w.day given } ∷ l) (hands_append given ws v)

hands_day : (given : List Manual) (k : ℕ) (ws : List WordDay) → is_day k (and_by_hand given ws) ≡ is_day k ws
hands_day given k [] = refl
hands_day given k (w ∷ ws) = ap (λ (b : Bool). nat_eq w.day k || b) (hands_day given k ws)

hands_before : (given : List Manual) (k : ℕ) (ws : List WordDay) → AllBefore k ws → AllBefore k (and_by_hand given ws)
hands_before given k [] b = tt
hands_before given k (w ∷ ws) b = (b.0, hands_before given k ws b.1)

-- a string of so many bytes has these of the expected days, from this one on
record Has (length bytes oldest : ℕ) (expected days : List WordDay) : Type 0 where
  gone : List WordDay
  there : List WordDay
  split : expected ≡ gone ++ there
  covers : Covers there days
  full : IsFull length bytes gone there
  some : there ≡ [] → gone ≡ []
  low : AllBefore oldest gone
  high : AllFrom oldest there
  none : there ≡ [] → oldest ≡ 0

module _ (length bytes oldest : ℕ) (days : List WordDay) where
  -- where the expected days are not later than this one, it is one from the oldest on
  from_oldest : (k : ℕ) (expected : List WordDay) → AllBefore (suc k) expected → Has length bytes oldest expected days → oldest ≤ k
  from_oldest k expected before h = by h.there h.none h.high (before_back (suc k) h.gone h.there (subst (λ (l : List WordDay). AllBefore (suc k) l) h.split before))
    where
      by : (there : List WordDay) → (there ≡ [] → oldest ≡ 0) → AllFrom oldest there → AllBefore (suc k) there → oldest ≤ k
      by [] none high before = omega (arith, none refl)
      by (t ∷ ts) none high before = omega (arith, high.0, before.0)

  has_more : (expected : List WordDay) → Has length bytes oldest expected days → Has length bytes oldest (more expected) days
  has_more expected h = by h.there refl
    where
      by : (there : List WordDay) → h.there ≡ there → Has length bytes oldest (more expected) days
      by [] is =
          let empty : expected ≡ [] = h.split ∙ ap (λ (l : List WordDay). l ++ h.there) (h.some is) ∙ is in
          subst (λ (l : List WordDay). Has length bytes oldest (more l) days) (sym empty) (subst (λ (l : List WordDay). Has length bytes oldest l days) empty h)
      by (t ∷ ts) is =
          let whole : expected ≡ h.gone ++ t ∷ ts = h.split ∙ ap (λ (l : List WordDay). h.gone ++ l) is in
          record {
            gone = h.gone;
            there = more (t ∷ ts);
            split = ap more whole ∙ more_back h.gone t ts;
            covers = covers_more (t ∷ ts) (more (t ∷ ts)) days (more_grows (t ∷ ts)) (subst (λ (l : List WordDay). Covers l days) is h.covers);
            full = full_more length bytes h.gone (t ∷ ts) (more (t ∷ ts)) (omega (arith, more_total t ts)) (subst (λ (l : List WordDay). IsFull length bytes h.gone l) is h.full);
            some = λ none. absurd (more_some t ts none);
            low = h.low;
            high = from_more oldest (t ∷ ts) (subst (λ (l : List WordDay). AllFrom oldest l) is h.high);
            none = λ none. absurd (more_some t ts none);
          }

  has_day : (expected : List WordDay) (v : WordDay) → AllBefore (suc v.day) expected → Has length bytes oldest expected days → Has length bytes oldest (expected ++ v ∷ []) days
  has_day expected v before h = record {
    gone = h.gone;
    there = h.there ++ v ∷ [];
    split = ap (λ (l : List WordDay). l ++ v ∷ []) h.split ∙ append_assoc h.gone h.there (v ∷ []);
    covers = covers_more h.there (h.there ++ v ∷ []) days (grows_longer h.there (v ∷ [])) h.covers;
    full = full_more length bytes h.gone h.there (h.there ++ v ∷ []) (grows_total h.there (h.there ++ v ∷ []) (grows_longer h.there (v ∷ []))) h.full;
    some = λ none. absurd (append_some h.there v none);
    low = h.low;
    high = from_append oldest h.there v h.high (from_oldest v.day expected before h);
    none = λ none. absurd (append_some h.there v none);
  }

  -- a closing word, and the words of an entry
  abbrev HasWith : List Manual → List WordDay → Type 0
  HasWith given ws = Has length bytes oldest (and_by_hand given ws) days

  with_more : (given : List Manual) (ws : List WordDay) → HasWith given ws → HasWith given (more ws)
  with_more given ws h = subst (λ (l : List WordDay). Has length bytes oldest l days) (sym (hands_more given ws)) (has_more (and_by_hand given ws) h)

  has_closed : (given : List Manual) (covered : ℕ) (o : Option Entry) (next : ℕ) (ws : List WordDay) → HasWith given ws → HasWith given (closes covered o next ws)
  has_closed given covered None next ws h = h
  has_closed given covered (Some p) next ws h = by (is_closed covered p next)
    where
      by : (b : Bool) → HasWith given (cond b (more ws) ws)
      by true = with_more given ws h
      by false = h

  has_entry : (given : List Manual) (before : Option Entry) (e : Entry) (ws : List WordDay) → AllBefore (suc (e.minute / 1440)) ws → HasWith given ws → HasWith given (adds before e ws)
  has_entry given before e ws low h = by (is_newest (e.minute / 1440) ws) (goes_on before e)
    where
      day : WordDay
      day = record { day = e.minute / 1440; words = first_words e.minute }

      by : (a b : Bool) → HasWith given (cond a (cond b ws (more ws)) (ws ++ record { day = e.minute / 1440; words = first_words e.minute } ∷ []))
      by true true = h
      by true false = with_more given ws h
      by false b = subst (λ (l : List WordDay). Has length bytes oldest l days) (sym (hands_append given ws day))
          (has_day (and_by_hand given ws) (record { day = e.minute / 1440; words = first_words e.minute + on_day (e.minute / 1440) given })
          (hands_before given (suc (e.minute / 1440)) ws low) h)

-- no day is later than that of the entry that came last
before_closed : (k covered : ℕ) (o : Option Entry) (next : ℕ) (ws : List WordDay) → AllBefore k ws → AllBefore k (closes covered o next ws)
before_closed k covered None next ws b = b
before_closed k covered (Some p) next ws b = by (is_closed covered p next)
  where
    by : (c : Bool) → AllBefore k (cond c (more ws) ws)
    by true = before_more k ws b
    by false = b

before_entry : (k : ℕ) (before : Option Entry) (e : Entry) (ws : List WordDay) → e.minute / 1440 < k → AllBefore k ws → AllBefore k (adds before e ws)
before_entry k before e ws lt b = by (is_newest (e.minute / 1440) ws) (goes_on before e)
  where
    by : (a g : Bool) → AllBefore k (cond a (cond g ws (more ws)) (ws ++ record { day = e.minute / 1440; words = first_words e.minute } ∷ []))
    by true true = b
    by true false = before_more k ws b
    by false g = before_append k ws (record { day = e.minute / 1440; words = first_words e.minute }) b lt

before_with : (k covered : ℕ) (c : Counted) (e : Entry) → e.minute / 1440 < k → AllBefore k c.days → AllBefore k (with_entry covered c e).days
before_with k covered c e lt b = before_entry k c.before e (closes covered c.before e.minute c.days) lt (before_closed k covered c.before e.minute c.days b)

counted_none : (covered : ℕ) (c : Counted) → counted covered c [] ≡ c
unfolding counted
counted_none covered c = refl

counted_next : (covered : ℕ) (c : Counted) (e : Entry) (es : List Entry) → counted covered c (e ∷ es) ≡ counted covered (with_entry covered c e) es
unfolding counted
counted_next covered c e es = refl

pub before_counted : (k covered : ℕ) (c : Counted) (es : List Entry) → AllBefore k c.days → All (λ e. e.minute / 1440 < k) es → AllBefore k (counted covered c es).days
before_counted k covered c [] b each = subst (λ (d : Counted). AllBefore k d.days) (sym (counted_none covered c)) b
before_counted k covered c (e ∷ es) b each =
    subst (λ (d : Counted). AllBefore k d.days) (sym (counted_next covered c e es))
    (before_counted k covered (with_entry covered c e) es (before_with k covered c e (All-head (λ (d : Entry). d.minute / 1440 < k) e es each) b) (All-tail (λ (d : Entry). d.minute / 1440 < k) e es each))

pub counted_then : (covered : ℕ) (c : Counted) (es fs : List Entry) → counted covered c (es ++ fs) ≡ counted covered (counted covered c es) fs
counted_then covered c [] fs = ap (λ (d : Counted). counted covered d fs) (sym (counted_none covered c))
counted_then covered c (e ∷ es) fs =
    counted_next covered c e (es ++ fs) ∙ counted_then covered (with_entry covered c e) es fs ∙ ap (λ (d : Counted). counted covered d fs) (sym (counted_next covered c e es))

-- a later day
same_or_later : (m n : ℕ) → m < n → suc (m / 1440) ≤ suc (n / 1440)
same_or_later m n lt = omega (arith, lt)

module _ (given : List Manual) (length bytes oldest covered n : ℕ) (days : List WordDay) where
  abbrev HasAfter : List WordDay → Type 0
  HasAfter ws = Has length bytes oldest (and_by_hand given ws) days

  has_with : (c : Counted) (e : Entry) → AllBefore (suc (e.minute / 1440)) c.days → HasAfter (closes covered c.before e.minute c.days) → HasAfter (with_entry covered c e).days
  has_with c e low h = has_entry length bytes oldest days given c.before e (closes covered c.before e.minute c.days) (before_closed (suc (e.minute / 1440)) covered c.before e.minute c.days low) h

  -- the same where the words of the first entry are counted already
  has_after : (c : Counted) (e : Entry) (es : List Entry) → Rise (e ∷ es) → AllBefore (suc (e.minute / 1440)) c.days → HasAfter (with_entry covered c e).days →
      HasAfter (expected_days covered n (counted covered c (e ∷ es)))
  has_after c e [] rise low h =
      subst (λ (d : Counted). HasAfter (expected_days covered n d)) (sym (counted_next covered c e [] ∙ counted_none covered (with_entry covered c e)))
      (has_closed length bytes oldest days given covered (Some e) n (with_entry covered c e).days h)
  has_after c e (f ∷ fs) rise low h =
      let next : AllBefore (suc (f.minute / 1440)) (with_entry covered c e).days = before_later (suc (e.minute / 1440)) (suc (f.minute / 1440)) (with_entry covered c e).days (same_or_later e.minute f.minute rise.0)
      (before_with (suc (e.minute / 1440)) covered c e (omega arith) low) in
      subst (λ (d : Counted). HasAfter (expected_days covered n d)) (sym (counted_next covered c e (f ∷ fs)))
      (has_after (with_entry covered c e) f fs rise.1 next (has_with (with_entry covered c e) f next (has_closed length bytes oldest days given covered (Some e) f.minute (with_entry covered c e).days h)))

  has_due : (c : Counted) (e : Entry) (es : List Entry) → Rise (e ∷ es) → AllBefore (suc (e.minute / 1440)) c.days → HasAfter (closes covered c.before e.minute c.days) →
      HasAfter (expected_days covered n (counted covered c (e ∷ es)))
  has_due c e es rise low h = has_after c e es rise low (has_with c e low h)

-- the entries from the oldest day on
from_all : (o : ℕ) (e : Entry) (es : List Entry) → Rise (e ∷ es) → o ≤ e.minute / 1440 → entries_from o (e ∷ es) ≡ e ∷ es
from_all o e [] later le = ap (λ (b : Bool). cond b (e ∷ []) []) (le-leb o (e.minute / 1440) le)
from_all o e (f ∷ es) later le =
    ap (λ (b : Bool). cond b (e ∷ entries_from o (f ∷ es)) (entries_from o (f ∷ es))) (le-leb o (e.minute / 1440) le)
    ∙ ap (λ (l : List Entry). e ∷ l) (from_all o f es later.1 (omega (arith, le, same_or_later e.minute f.minute later.0)))

from_both : (o : ℕ) (all due : List Entry) → entries_from o (all ++ due) ≡ entries_from o all ++ entries_from o due
from_both o [] due = refl
from_both o (e ∷ all) due = by (nat_le o (e.minute / 1440)) (from_both o all due)
  where
    by : (b : Bool) → entries_from o (all ++ due) ≡ entries_from o all ++ entries_from o due → cond b (e ∷ entries_from o (all ++ due)) (entries_from o (all ++ due)) ≡ cond b (e ∷ entries_from o all) (entries_from o all) ++ entries_from o due
    by true rest = ap (λ (l : List Entry). e ∷ l) rest
    by false rest = rest

-- A DAY THAT WAS BEGUN: entries of other days leave it so
none_closed : (k covered : ℕ) (o : Option Entry) (next : ℕ) (ws : List WordDay) → is_day k (closes covered o next ws) ≡ is_day k ws
none_closed k covered None next ws = refl
none_closed k covered (Some p) next ws = by (is_closed covered p next)
  where
    by : (b : Bool) → is_day k (cond b (more ws) ws) ≡ is_day k ws
    by true = is_day_more k ws
    by false = refl

none_append : (k : ℕ) (ws : List WordDay) (v : WordDay) → nat_eq v.day k ≡ false → is_day k (ws ++ v ∷ []) ≡ is_day k ws
none_append k [] v is = ap (λ (b : Bool). b || false) is
none_append k (w ∷ ws) v is = ap (λ (b : Bool). nat_eq w.day k || b) (none_append k ws v is)

none_entry : (k : ℕ) (before : Option Entry) (e : Entry) (ws : List WordDay) → nat_eq (e.minute / 1440) k ≡ false → is_day k (adds before e ws) ≡ is_day k ws
none_entry k before e ws is = by (is_newest (e.minute / 1440) ws) (goes_on before e)
  where
    by : (a g : Bool) → is_day k (cond a (cond g ws (more ws)) (ws ++ record { day = e.minute / 1440; words = first_words e.minute } ∷ [])) ≡ is_day k ws
    by true true = refl
    by true false = is_day_more k ws
    by false g = none_append k ws (record { day = e.minute / 1440; words = first_words e.minute }) is

above : (k l : ℕ) → k < l → nat_eq l k ≡ false
above k l lt = grind (arith, nat_tests)

below : (k l : ℕ) → k < l → nat_eq k l ≡ false
below k l lt = grind (arith, nat_tests)

none_counted : (k covered : ℕ) (c : Counted) (es : List Entry) → All (λ e. k < e.minute / 1440) es → is_day k (counted covered c es).days ≡ is_day k c.days
none_counted k covered c [] each = ap (λ (d : Counted). is_day k d.days) (counted_none covered c)
none_counted k covered c (e ∷ es) each =
    ap (λ (d : Counted). is_day k d.days) (counted_next covered c e es)
    ∙ none_counted k covered (with_entry covered c e) es (All-tail (λ (d : Entry). k < d.minute / 1440) e es each)
    ∙ none_entry k c.before e (closes covered c.before e.minute c.days) (above k (e.minute / 1440) (All-head (λ (d : Entry). k < d.minute / 1440) e es each))
    ∙ none_closed k covered c.before e.minute c.days

none_of : (k : ℕ) (es : List Entry) → All (λ e. k < e.minute / 1440) es → entries_in (begun_on k ∷ []) es ≡ []
none_of k [] each = refl
none_of k (e ∷ es) each =
    ap (λ (b : Bool). cond (b || false) (e ∷ entries_in (begun_on k ∷ []) es) (entries_in (begun_on k ∷ []) es)) (below k (e.minute / 1440) (All-head (λ (d : Entry). k < d.minute / 1440) e es each))
    ∙ none_of k es (All-tail (λ (d : Entry). k < d.minute / 1440) e es each)

each_later : (k : ℕ) (e : Entry) (es : List Entry) → Rise (e ∷ es) → k < e.minute / 1440 → All (λ d. k < d.minute / 1440) (e ∷ es)
each_later k e [] rise lt = All-cons (λ (d : Entry). k < d.minute / 1440) e [] lt (All-nil (λ (d : Entry). k < d.minute / 1440))
each_later k e (f ∷ fs) rise lt = All-cons (λ (d : Entry). k < d.minute / 1440) e (f ∷ fs) lt (each_later k f fs rise.1 (omega (arith, lt, same_or_later e.minute f.minute rise.0)))

-- and one of that day brings it
not_newest : (k : ℕ) (ws : List WordDay) → is_day k ws ≡ false → is_newest k ws ≡ false
not_newest k [] is = refl
not_newest k (w ∷ []) is = by (nat_eq w.day k) is
  where
    by : (b : Bool) → b || false ≡ false → b ≡ false
    by true is = absurd (cc)
    by false is = refl
not_newest k (w ∷ v ∷ ws) is = not_newest k (v ∷ ws) (by (nat_eq w.day k) is)
  where
    by : (b : Bool) → b || is_day k (v ∷ ws) ≡ false → is_day k (v ∷ ws) ≡ false
    by true is = absurd (cc)
    by false is = is

some_first : (minute : ℕ) → 1 ≤ first_words minute
some_first minute = by (nat_eq (minute % 1440) 0)
  where
    by : (b : Bool) → 1 ≤ cond b 1 2
    by true = omega arith
    by false = omega arith

has_begun : (given : List Manual) (length bytes oldest : ℕ) (older : List WordDay) (before : Option Entry) (e : Entry) (ws : List WordDay) → is_newest (e.minute / 1440) ws ≡ false → AllBefore (suc (e.minute / 1440)) ws
    → Has length bytes oldest (and_by_hand given ws) older → Has length bytes oldest (and_by_hand given (adds before e ws)) (older ++ begun_on (e.minute / 1440) ∷ [])
has_begun given length bytes oldest older before e ws other low h = by (is_newest (e.minute / 1440) ws) (goes_on before e) other
  where
    plain : WordDay
    plain = record { day = e.minute / 1440; words = first_words e.minute }

    day : WordDay
    day = record { day = e.minute / 1440; words = first_words e.minute + on_day (e.minute / 1440) given }

    by : (a g : Bool) → a ≡ false → Has length bytes oldest (and_by_hand given (cond a (cond g ws (more ws)) (ws ++ record { day = e.minute / 1440; words = first_words e.minute } ∷ []))) (older ++ begun_on (e.minute / 1440) ∷ [])
    by true g is = absurd (cc)
    by false g is = record {
      gone = h.gone;
      there = h.there ++ day ∷ [];
      split = hands_append given ws plain ∙ ap (λ (l : List WordDay). l ++ day ∷ []) h.split ∙ append_assoc h.gone h.there (day ∷ []);
      covers = covers_day h.there older day (begun_on (e.minute / 1440)) (record { day = refl; words = omega (arith, some_first e.minute) }) h.covers;
      full = full_more length bytes h.gone h.there (h.there ++ day ∷ []) (grows_total h.there (h.there ++ day ∷ []) (grows_longer h.there (day ∷ []))) h.full;
      some = λ none. absurd (append_some h.there day none);
      low = h.low;
      high = from_append oldest h.there day h.high (from_oldest length bytes oldest older (e.minute / 1440) (and_by_hand given ws) (hands_before given (suc (e.minute / 1440)) ws low) h);
      none = λ none. absurd (append_some h.there day none);
    }

-- WHAT COMES NEXT COUNTS: where a string keeps the rule of these entries with the next one not earlier than the first of the others,
-- which are later, of no earlier day, and of none before that of the start's end mark, it keeps that of all with these counted as there,
-- from the same day on.
module _ (given : List Manual) (size bytes marked covered n : ℕ) (c : Counted) (all : List Entry) (e : Entry) (es : List Entry) (days : List WordDay) (shown : List Entry) (later : Rise (e ∷ es)) (low : AllBefore (suc (e.minute / 1440)) c.days) (behind : marked ≤ e.minute / 1440)
    (r : CardRetains size bytes marked (and_by_hand given (expected_days covered e.minute c)) all days shown) where
  -- of days that it has, whatever they are
  abbrev HadOf : List WordDay → Type 0
  HadOf ds = Has size bytes r.oldest (and_by_hand given (closes covered c.before e.minute c.days)) ds

  had_of : (ds : List WordDay) → Covers r.there ds → HadOf ds
  had_of ds covers = record { gone = r.gone; there = r.there; split = r.split; covers = covers; full = r.full; some = r.some; low = r.low; high = r.high; none = r.none }

  closed_low : AllBefore (suc (e.minute / 1440)) (closes covered c.before e.minute c.days)
  closed_low = before_closed (suc (e.minute / 1440)) covered c.before e.minute c.days low

  abbrev HasAll : List WordDay → Type 0
  HasAll ds = Has size bytes r.oldest (and_by_hand given (expected_days covered n (counted covered c (e ∷ es)))) ds

  abbrev pub Retained : Type 0
  Retained = (k : CardRetains size bytes marked (and_by_hand given (expected_days covered n (counted covered c (e ∷ es)))) (all ++ e ∷ es) days (shown ++ e ∷ es)) × (k.oldest ≡ r.oldest)

  retained : r.oldest ≤ e.minute / 1440 → (ds : List WordDay) (has : HasAll ds) → Covers has.there days ⊎ HasBegun marked (and_by_hand given (expected_days covered n (counted covered c (e ∷ es)))) has.there (all ++ e ∷ es) days → Retained
  retained from ds has covers = (
    record {
      gone = has.gone;
      there = has.there;
      split = has.split;
      covers = covers;
      full = has.full;
      some = has.some;
      oldest = r.oldest;
      low = has.low;
      high = has.high;
      none = has.none;
      entries = ap (λ (l : List Entry). l ++ e ∷ es) r.entries ∙ ap (λ (l : List Entry). entries_from r.oldest all ++ l) (sym (from_all r.oldest e es later from)) ∙ sym (from_both r.oldest all (e ∷ es));
    },
    refl,
  )

  from : (ds : List WordDay) → HadOf ds → r.oldest ≤ e.minute / 1440
  from ds had = from_oldest size bytes r.oldest ds (e.minute / 1440) (and_by_hand given (closes covered c.before e.minute c.days)) (hands_before given (suc (e.minute / 1440)) (closes covered c.before e.minute c.days) closed_low) had

  -- a day that was begun stays so where the next entry is of a later day
  on_later : HasBegun marked (and_by_hand given (expected_days covered e.minute c)) r.there all days → marked < e.minute / 1440 → Retained
  on_later b lt =
      let each : All (λ (d : Entry). marked < d.minute / 1440) (e ∷ es) = each_later marked e es later lt in
      let has : HasAll b.older = has_due given size bytes r.oldest covered n b.older c e es later low (had_of b.older b.covers) in
      retained (from b.older (had_of b.older b.covers)) b.older has
      (inr (record {
        older = b.older;
        newest = b.newest;
        before = b.before;
        covers = has.covers;
        further = hands_day given marked (expected_days covered n (counted covered c (e ∷ es))) ∙ none_closed marked covered (counted covered c (e ∷ es)).before n (counted covered c (e ∷ es)).days ∙ none_counted marked covered c (e ∷ es) each ∙ sym (none_closed marked covered c.before e.minute c.days) ∙ sym (hands_day given marked (expected_days covered e.minute c)) ∙ b.further;
        empty = append_in (begun_on marked ∷ []) all (e ∷ es) ∙ ap (λ (l : List Entry). l ++ entries_in (begun_on marked ∷ []) (e ∷ es)) b.empty ∙ none_of marked (e ∷ es) each;
      }))

  -- and is the day of that entry where it lies on it
  on_it : HasBegun marked (and_by_hand given (expected_days covered e.minute c)) r.there all days → marked ≡ e.minute / 1440 → Retained
  on_it b at =
      let other : is_newest (e.minute / 1440) (closes covered c.before e.minute c.days) ≡ false = not_newest (e.minute / 1440) (closes covered c.before e.minute c.days) (subst (λ (k : ℕ). is_day k (closes covered c.before e.minute c.days) ≡ false) at (sym (hands_day given marked (closes covered c.before e.minute c.days)) ∙ b.further)) in
      let is : b.older ++ begun_on (e.minute / 1440) ∷ [] ≡ days = ap (λ (k : ℕ). b.older ++ begun_on k ∷ []) (sym at) ∙ sym b.newest in
      let has : HasAll days = has_after given size bytes r.oldest covered n days c e es later low (subst (λ (l : List WordDay). Has size bytes r.oldest (and_by_hand given (with_entry covered c e).days) l) is
      (has_begun given size bytes r.oldest b.older c.before e (closes covered c.before e.minute c.days) other closed_low (had_of b.older b.covers))) in
      retained (from b.older (had_of b.older b.covers)) days has (inl has.covers)

  pub retains_due : Retained
  retains_due = ⊎_elim
      (λ covers. let has : HasAll days = has_due given size bytes r.oldest covered n days c e es later low (had_of days covers) in retained (from days (had_of days covers)) days has (inl has.covers))
      (λ b. ⊎_elim (λ lt. on_later b lt) (λ le. on_it b (omega (arith, le, behind))) (cases_lt marked (e.minute / 1440)))
      r.covers
