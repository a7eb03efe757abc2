-- Where the day of the next entry is new, it is later than the end mark's, or no day so far is as late.
use Rattle.std.proofs.Common.{◌≡◌, ◌⊎◌, inl, inr, ⊎_elim, ℕ, suc, ◌/◌, ◌<◌, ◌≤◌, Bool, true, false, cond, ◌&&◌, ◌||◌, Option, Some, None, List, [], ◌∷◌, ◌++◌, refl, sym, ◌∙◌, ap, subst, arith}
use Rattle.std.specs.Prelude.{nat_eq, nat_lt}
use Rattle.std.proofs.lemmas.Bool.{cases_lt, eqb-true}
use Rattle.std.proofs.lemmas.Bool.Decides.{nat_tests}
use Rattle.card_by_hand.specs.activity_codec.declared.entries.Entry.{Entry}
use Rattle.card_by_hand.specs.card_model.Days.{Day}
use Rattle.card_by_hand.specs.card_retention.Expected.{WordDay, more, is_newest, goes_on, closes, adds, is_closed, first_words, Counted, with_entry, expected_days}
use Rattle.card_by_hand.specs.card_retention.Shown.{Bound, InDays, AllFrom, AllBefore, AllIn, Rising, Shows, sizes, is_open, owing, Rests}
use Rattle.card_by_hand.specs.card_retention.Retains.{entries_in, begun_on}
use Rattle.card_by_hand.proofs.card_retention.Entering.{rising_more, newest_more, shows_before, rising_sizes, closes_is}
use Rattle.card_by_hand.proofs.card_retention.Growing.{in_more, in_front, still_in}
use Rattle.card_string.specs.Since.{HasOn, IsByEntries}

-- ---- days in their order

-- each is before this one, or the newest is as late
newest_side : (k : ℕ) (ws : List WordDay) → Rising ws → AllBefore k ws ⊎ ((n : ℕ) × (is_newest n ws ≡ true) × (k ≤ n))
newest_side k [] r = inl tt
newest_side k (w ∷ []) r = ⊎_elim (λ lt. inl (lt, tt)) (λ le. inr (w.day, same w.day, le)) (cases_lt w.day k)
  where
    same : (n : ℕ) → nat_eq n n ≡ true
    same n = grind (arith, nat_tests)
newest_side k (w ∷ v ∷ ws) r = ⊎_elim
    (λ b. inl (omega (arith, r.0, b.0), b))
    (λ n. inr n) (newest_side k (v ∷ ws) r.1)

-- all are up to the newest
newest_most : (k : ℕ) (ws : List WordDay) → Rising ws → is_newest k ws ≡ true → AllBefore (suc k) ws
newest_most k [] r is = tt
newest_most k (w ∷ []) r is = (omega (arith, eqb-true w.day k is), tt)
newest_most k (w ∷ v ∷ ws) r is = let rest = newest_most k (v ∷ ws) r.1 is in (omega (arith, r.0, rest.0), rest)

-- a day that is there, behind which none is, is the newest
newest_in : (k : ℕ) (ws : List WordDay) → Rising ws → AllBefore (suc k) ws → InDays k ws → is_newest k ws ≡ true
newest_in k [] r b i = absurd i
newest_in k (w ∷ []) r b i = ⊎_elim (λ at. same w.day k at) (λ none. absurd none) i
  where
    same : (m n : ℕ) → m ≡ n → nat_eq m n ≡ true
    same m n is = grind (arith, nat_tests)
newest_in k (w ∷ v ∷ ws) r b i = ⊎_elim (λ at. absurd (omega (arith, at, r.0, b.1.0))) (λ later. newest_in k (v ∷ ws) r.1 b.1 later) i

newest_closes : (k covered : ℕ) (before : Option Entry) (next : ℕ) (ws : List WordDay) → is_newest k (closes covered before next ws) ≡ is_newest k ws
newest_closes k covered None next ws = refl
newest_closes k covered (Some p) next ws = by (is_closed covered p next)
  where
    by : (b : Bool) → is_newest k (cond b (more ws) ws) ≡ is_newest k ws
    by true = newest_more k ws
    by false = refl

rising_closes : (covered : ℕ) (before : Option Entry) (next : ℕ) (ws : List WordDay) → Rising ws → Rising (closes covered before next ws)
rising_closes covered before next ws r = closes_is Rising covered before next ws r (rising_more ws r)

-- the newest of two parts
newest_back : (k : ℕ) (gone there : List WordDay) (t : WordDay) (ts : List WordDay) → there ≡ t ∷ ts → is_newest k (gone ++ there) ≡ true → is_newest k there ≡ true
newest_back k [] there t ts some is = is
newest_back k (g ∷ gone) there t ts some is = newest_back k gone there t ts some (by gone is)
  where
    by : (gone : List WordDay) → is_newest k (g ∷ (gone ++ there)) ≡ true → is_newest k (gone ++ there) ≡ true
    by [] one = subst (λ (l : List WordDay). is_newest k l ≡ true) (sym some) (subst (λ (l : List WordDay). is_newest k (g ∷ l) ≡ true) some one)
    by (h ∷ hs) one = one

newest_from : (o k : ℕ) (ws : List WordDay) → AllFrom o ws → is_newest k ws ≡ true → o ≤ k
newest_from o k [] f is = absurd (cc)
newest_from o k (w ∷ []) f is = omega (arith, f.0, eqb-true w.day k is)
newest_from o k (w ∷ v ∷ ws) f is = newest_from o k (v ∷ ws) f.1 is

-- the newest expected day is there
oldest_low : (length : ℕ) (slack : Bound) (k : ℕ) (expected days : List WordDay) → is_newest k expected ≡ true → (s : Shows length slack expected days) → s.oldest ≤ k
oldest_low length slack k expected days is s = by s.there refl
  where
    by : (there : List WordDay) → s.there ≡ there → s.oldest ≤ k
    by [] none = omega (arith, s.none none)
    by (t ∷ ts) some = newest_from s.oldest k s.there s.high (newest_back k s.gone s.there t ts some (subst (λ (l : List WordDay). is_newest k l ≡ true) s.split is))

-- ---- entries and days

in_of : (o k : ℕ) (es : List Entry) (ws : List WordDay) → AllIn o es ws → o ≤ k → HasOn k es → InDays k ws
in_of o k [] ws all le has = absurd has
in_of o k (e ∷ es) ws all le has = ⊎_elim
    (λ at. subst (λ (n : ℕ). InDays n ws) at (all.0 (omega (arith, le, at))))
    (λ later. in_of o k es ws all.1 le later) has

pub has_last : (es : List Entry) (e : Entry) → HasOn (e.minute / 1440) (es ++ e ∷ [])
has_last [] e = inl refl
has_last (f ∷ es) e = inr (has_last es e)

in_less : (k : ℕ) (ws : List WordDay) → InDays k (more ws) → InDays k ws
in_less k [] i = i
in_less k (w ∷ []) i = i
in_less k (w ∷ v ∷ ws) i = ⊎_elim (λ at. inl at) (λ later. inr (in_less k (v ∷ ws) later)) i

in_sizes : (n mark k : ℕ) (ds : List Day) → InDays k (owing n mark ds) → InDays k (sizes ds)
in_sizes n mark k ds = by (is_open mark ds && nat_lt (suc mark) n)
  where
    by : (o : Bool) → InDays k (cond o (more (sizes ds)) (sizes ds)) → InDays k (sizes ds)
    by true i = in_less k (sizes ds) i
    by false i = i

before_less : (k : ℕ) (ws : List WordDay) → AllBefore k (more ws) → AllBefore k ws
before_less k [] b = tt
before_less k (w ∷ []) b = b
before_less k (w ∷ v ∷ ws) b = (b.0, before_less k (v ∷ ws) b.1)

before_sizes : (n mark k : ℕ) (ds : List Day) → AllBefore k (owing n mark ds) → AllBefore k (sizes ds)
before_sizes n mark k ds = by (is_open mark ds && nat_lt (suc mark) n)
  where
    by : (o : Bool) → AllBefore k (cond o (more (sizes ds)) (sizes ds)) → AllBefore k (sizes ds)
    by true b = before_less k (sizes ds) b
    by false b = b

-- no entry is on a day behind all that count
pub day_before : (k j : ℕ) (ws : List WordDay) → AllBefore k ws → InDays j ws → j < k
day_before k j [] b i = absurd i
day_before k j (w ∷ ws) b i = ⊎_elim (λ at. omega (arith, at, b.0)) (λ later. day_before k j ws b.1 later) i

pub none_on : (k : ℕ) (es : List Entry) (ws : List WordDay) → AllIn 0 es ws → AllBefore k ws → entries_in (begun_on k ∷ []) es ≡ []
none_on k [] ws all b = refl
none_on k (e ∷ es) ws all b =
    ap (λ (t : Bool). cond (t || false) (e ∷ entries_in (begun_on k ∷ []) es) (entries_in (begun_on k ∷ []) es)) (apart k (e.minute / 1440) (day_before k (e.minute / 1440) ws b (all.0 (omega arith))))
    ∙ none_on k es ws all.1 b
  where
    apart : (m n : ℕ) → n < m → nat_eq m n ≡ false
    apart m n lt = grind (arith, nat_tests)

-- ---- THE NEXT ENTRY

module _ (size : ℕ) (slack : Bound) (covered from mark : ℕ) (c : Counted) (all : List Entry) (days : List Day) (r : Rests size slack covered from mark c days) (told : IsByEntries slack mark c all) where
  -- the newest day that counts is that of the end mark
  module _ (k : ℕ) (is : is_newest k c.days ≡ true) (has : HasOn k slack.all) where
    expected : List WordDay
    expected = expected_days covered from c

    shown : Shows size slack expected (owing from mark days)
    unfolding expected
    shown = r.shows from (omega arith)

    newest_expected : is_newest k expected ≡ true
    unfolding expected
    newest_expected = newest_closes k covered c.before from c.days ∙ is

    most : AllBefore (suc k) (sizes days)
    unfolding expected
    most = before_sizes from mark (suc k) days (shows_before size slack (suc k) (expected_days covered from c) (owing from mark days)
        (newest_most k (expected_days covered from c) (rising_closes covered c.before from c.days r.rising) newest_expected) shown)

    there : InDays k (sizes days)
    there = in_sizes from mark k days (in_of shown.oldest k slack.all (owing from mark days) shown.whole (oldest_low size slack k expected (owing from mark days) newest_expected shown) has)

    newest_there : is_newest k (sizes days) ≡ true
    newest_there = newest_in k (sizes days) (rising_sizes 0 days r.ordered) most there

  pub clear_of : (e : Entry) → from ≤ e.minute → (is_newest (e.minute / 1440) (sizes days) ≡ false → mark / 1440 < e.minute / 1440) ⊎ (AllBefore (mark / 1440) c.days × (entries_in (begun_on (mark / 1440) ∷ []) all ≡ []))
  clear_of e later = ⊎_elim
      (λ before. inr (before, none_on (mark / 1440) all c.days told.within before))
      (λ newest. inl (λ other. by newest.0 newest.1 newest.2 other (told.newest newest.0 newest.1)))
      (newest_side (mark / 1440) c.days r.rising)
    where
      last_day : (k : ℕ) → is_newest k c.days ≡ true → k ≤ e.minute / 1440
      last_day k is = omega (arith, last_in k c.days is r.low, r.next, later)
        where
          last_in : (k : ℕ) (ws : List WordDay) → is_newest k ws ≡ true → AllBefore (suc (r.top / 1440)) ws → k ≤ r.top / 1440
          last_in k [] is b = absurd (cc)
          last_in k (w ∷ []) is b = omega (arith, eqb-true w.day k is, b.0)
          last_in k (w ∷ v ∷ ws) is b = last_in k (v ∷ ws) is b.1

      by : (k : ℕ) → is_newest k c.days ≡ true → mark / 1440 ≤ k → is_newest (e.minute / 1440) (sizes days) ≡ false → HasOn k slack.all ⊎ (mark / 1440 < k) → mark / 1440 < e.minute / 1440
      by k is le other (inr lt) = omega (arith, lt, last_day k is)
      by k is le other (inl has) = ⊎_elim
          (λ lt. lt)
          (λ up.
          let at : e.minute / 1440 ≡ k = omega (arith, up, le, last_day k is) in
          absurd (apart (sym (ap (λ (n : ℕ). is_newest n (sizes days)) at ∙ newest_there k is has) ∙ other)))
          (cases_lt (mark / 1440) (e.minute / 1440))
        where
          apart : true ≡ false → ⊥
          apart never = cc

-- ---- one more

newest_one : (k : ℕ) (ws : List WordDay) (v : WordDay) → is_newest k (ws ++ v ∷ []) ≡ true → v.day ≡ k
newest_one k [] v is = eqb-true v.day k is
newest_one k (w ∷ []) v is = newest_one k [] v is
newest_one k (w ∷ x ∷ ws) v is = newest_one k (x ∷ ws) v is

newest_same : (j k : ℕ) (ws : List WordDay) → is_newest j ws ≡ true → is_newest k ws ≡ true → j ≡ k
newest_same j k [] a b = absurd (cc)
newest_same j k (w ∷ []) a b = omega (arith, eqb-true w.day j a, eqb-true w.day k b)
newest_same j k (w ∷ v ∷ ws) a b = newest_same j k (v ∷ ws) a b

pub in_last : (k : ℕ) (ws : List WordDay) (v : WordDay) → v.day ≡ k → InDays k (ws ++ v ∷ [])
in_last k [] v at = inl at
in_last k (w ∷ ws) v at = inr (in_last k ws v at)

pub newest_is : (k : ℕ) (ws : List WordDay) → is_newest k ws ≡ true → InDays k ws
newest_is k [] is = absurd (cc)
newest_is k (w ∷ []) is = inl (eqb-true w.day k is)
newest_is k (w ∷ v ∷ ws) is = inr (newest_is k (v ∷ ws) is)

all_append : (o : ℕ) (es : List Entry) (e : Entry) (ws : List WordDay) → AllIn o es ws → InDays (e.minute / 1440) ws → AllIn o (es ++ e ∷ []) ws
all_append o [] e ws all i = (λ le. i, tt)
all_append o (f ∷ es) e ws all i = (all.0, all_append o es e ws all.1 i)

module _ (before : Option Entry) (e : Entry) (ws : List WordDay) where
  fresh : WordDay
  fresh = record { day = e.minute / 1440; words = first_words e.minute }

  adds_newest : (k : ℕ) → is_newest k (adds before e ws) ≡ true → e.minute / 1440 ≡ k
  unfolding fresh
  adds_newest k = by (is_newest (e.minute / 1440) ws) (goes_on before e) refl
    where
      by : (n g : Bool) → is_newest (e.minute / 1440) ws ≡ n → is_newest k (cond n (cond g ws (more ws)) (ws ++ fresh ∷ [])) ≡ true → e.minute / 1440 ≡ k
      by true true here is = newest_same (e.minute / 1440) k ws here is
      by true false here is = newest_same (e.minute / 1440) k ws here (sym (newest_more k ws) ∙ is)
      by false g here is = newest_one k ws fresh is

  adds_in : InDays (e.minute / 1440) (adds before e ws)
  unfolding fresh
  adds_in = by (is_newest (e.minute / 1440) ws) (goes_on before e) refl
    where
      by : (n g : Bool) → is_newest (e.minute / 1440) ws ≡ n → InDays (e.minute / 1440) (cond n (cond g ws (more ws)) (ws ++ fresh ∷ []))
      by true true here = newest_is (e.minute / 1440) ws here
      by true false here = in_more (e.minute / 1440) ws (newest_is (e.minute / 1440) ws here)
      by false g here = in_last (e.minute / 1440) ws fresh refl

  pub adds_still : (k : ℕ) → InDays k ws → InDays k (adds before e ws)
  unfolding fresh
  adds_still k i = by (is_newest (e.minute / 1440) ws) (goes_on before e)
    where
      by : (n g : Bool) → InDays k (cond n (cond g ws (more ws)) (ws ++ fresh ∷ []))
      by true true = i
      by true false = in_more k ws i
      by false g = in_front k ws (fresh ∷ []) i

pub told_within : (slack more_ : Bound) (now covered : ℕ) (c : Counted) (all : List Entry) (e : Entry) → more_.all ≡ slack.all ++ e ∷ [] → AllIn 0 all c.days → IsByEntries more_ now (with_entry covered c e) (all ++ e ∷ [])
told_within slack more_ now covered c all e is within = record {
  newest = λ k newest.
      let at = adds_newest c.before e (closes covered c.before e.minute c.days) k newest in
      inl (subst (λ (n : ℕ). HasOn n more_.all) at (subst (λ (l : List Entry). HasOn (e.minute / 1440) l) (sym is) (has_last slack.all e)));
  within = all_append 0 all e (adds c.before e (closes covered c.before e.minute c.days))
      (still_in c.days (adds c.before e (closes covered c.before e.minute c.days))
      (λ k i. adds_still c.before e (closes covered c.before e.minute c.days) k (closes_is (InDays k) covered c.before e.minute c.days i (in_more k c.days i))) 0 all within)
      (adds_in c.before e (closes covered c.before e.minute c.days));
}

pub told_more : (slack more_ : Bound) (mark now covered : ℕ) (c : Counted) (all : List Entry) (e : Entry) → more_.all ≡ slack.all ++ e ∷ [] → IsByEntries slack mark c all → IsByEntries more_ now (with_entry covered c e) (all ++ e ∷ [])
told_more slack more_ mark now covered c all e is told = told_within slack more_ now covered c all e is told.within

-- the end mark moves within its day
pub told_still : (slack : Bound) (mark now : ℕ) (c : Counted) (all : List Entry) → now / 1440 ≡ mark / 1440 → IsByEntries slack mark c all → IsByEntries slack now c all
told_still slack mark now c all same told = record { newest = λ k newest. ⊎_elim (λ has. inl has) (λ lt. inr (omega (arith, same, lt))) (told.newest k newest); within = told.within }

-- its day counts
pub last_in : (covered : ℕ) (c : Counted) (e : Entry) → InDays (e.minute / 1440) (with_entry covered c e).days
last_in covered c e = adds_in c.before e (closes covered c.before e.minute c.days)

-- no day is there that all are before
pub before_in : (k : ℕ) (ws : List WordDay) → AllBefore k ws → InDays k ws → ⊥
before_in k ws b i = omega (arith, day_before k k ws b i)
