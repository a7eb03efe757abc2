-- More words of the expected days, and more bytes, keep what the stated overwriting says of a card; and entries by hand count as words.
use Rattle.std.proofs.Common.{◌≡◌, inl, inr, ⊎_elim, ℕ, zero, suc, ◌+◌, ◌/◌, ◌%◌, ◌≤◌, Bool, true, false, cond, ◌||◌, Option, Some, None, List, [], ◌∷◌, ◌++◌, length, refl, sym, ◌∙◌, ap, subst, arith}
use Rattle.std.specs.Prelude.{nat_eq}
use Rattle.std.proofs.lemmas.Bool.{eqb-true}
use Rattle.std.proofs.lemmas.Bool.Decides.{nat_tests}
use Rattle.activity_codec.specs.declared.entries.Entry.{Entry}
use Rattle.card_session.specs.card_retention.Expected.{WordDay, Counted, size_all, more, is_newest, closes, is_closed, first_words, goes_on, adds, with_entry}
use Rattle.card_session.specs.card_retention.Shown.{Covers, IsFull, AllBefore, AllFrom}
use Rattle.card_session.specs.card_retention.Retains.{CardRetains, is_day}
use Rattle.card_session.proofs.card_retention.Entering.{newest_more}
use Rattle.activity_codec.specs.declared.entries.Manual.{Manual}
use Rattle.hand_model.specs.Counted.{with_by_hand, on_day, and_by_hand}
use Rattle.card_by_hand.specs.Wider.{Wider, with_hands, AreOnDay}

-- ---- days with more words

pub wider_hands : (es : List Manual) (ws : List WordDay) → Wider ws (and_by_hand es ws)
wider_hands es [] = tt
wider_hands es (w ∷ ws) = (refl, omega arith, wider_hands es ws)

record Parted (gone there vs : List WordDay) : Type 0 where
  front : List WordDay
  back : List WordDay
  is : vs ≡ front ++ back
  first : Wider gone front
  rest : Wider there back

parted : (gone there vs : List WordDay) → Wider (gone ++ there) vs → Parted gone there vs
parted [] there vs wide = record { front = []; back = vs; is = refl; first = tt; rest = wide }
parted (g ∷ gs) there [] wide = absurd wide
parted (g ∷ gs) there (v ∷ vs) wide =
    let p = parted gs there vs wide.2 in
    record { front = v ∷ p.front; back = p.back; is = ap (λ (l : List WordDay). v ∷ l) p.is; first = (wide.0, wide.1, p.first); rest = p.rest }

covers_wider : (ws vs ds : List WordDay) → Wider ws vs → Covers ws ds → Covers vs ds
covers_wider [] [] ds wide c = c
covers_wider [] (v ∷ vs) ds wide c = absurd wide
covers_wider (w ∷ ws) [] ds wide c = absurd wide
covers_wider (w ∷ ws) (v ∷ vs) [] wide c = tt
covers_wider (w ∷ ws) (v ∷ vs) (d ∷ ds) wide c = ⊎_elim
    (λ m. inl (record { day = m.0.day ∙ sym wide.0; words = omega (arith, m.0.words, wide.1) }, covers_wider ws vs ds wide.2 m.1))
    (λ m. inr (covers_wider ws vs (d ∷ ds) wide.2 m)) c

all_wider : (ws vs : List WordDay) → Wider ws vs → size_all ws ≤ size_all vs
all_wider [] [] wide = omega arith
all_wider [] (v ∷ vs) wide = absurd wide
all_wider (w ∷ ws) [] wide = absurd wide
all_wider (w ∷ ws) (v ∷ vs) wide = omega (arith, wide.1, all_wider ws vs wide.2)

full_wider : (length slack more : ℕ) (gone front there back : List WordDay) → slack ≤ more → Wider gone front → Wider there back → IsFull length slack gone there → IsFull length more front back
full_wider length slack more [] [] there back le first rest full = tt
full_wider length slack more [] (f ∷ fs) there back le first rest full = absurd first
full_wider length slack more (g ∷ gs) [] there back le first rest full = absurd first
full_wider length slack more (g ∷ []) (f ∷ []) there back le first rest full = omega (arith, full, le, first.1, all_wider there back rest)
full_wider length slack more (g ∷ []) (f ∷ e ∷ fs) there back le first rest full = absurd first.2
full_wider length slack more (g ∷ h ∷ gs) (f ∷ []) there back le first rest full = absurd first.2
full_wider length slack more (g ∷ h ∷ gs) (f ∷ e ∷ fs) there back le first rest full = full_wider length slack more (h ∷ gs) (e ∷ fs) there back le first.2 rest full

before_wider : (k : ℕ) (ws vs : List WordDay) → Wider ws vs → AllBefore k ws → AllBefore k vs
before_wider k [] [] wide b = tt
before_wider k [] (v ∷ vs) wide b = absurd wide
before_wider k (w ∷ ws) [] wide b = absurd wide
before_wider k (w ∷ ws) (v ∷ vs) wide b = (omega (arith, wide.0, b.0), before_wider k ws vs wide.2 b.1)

from_wider : (k : ℕ) (ws vs : List WordDay) → Wider ws vs → AllFrom k ws → AllFrom k vs
from_wider k [] [] wide f = tt
from_wider k [] (v ∷ vs) wide f = absurd wide
from_wider k (w ∷ ws) [] wide f = absurd wide
from_wider k (w ∷ ws) (v ∷ vs) wide f = (omega (arith, wide.0, f.0), from_wider k ws vs wide.2 f.1)

day_wider : (k : ℕ) (ws vs : List WordDay) → Wider ws vs → is_day k vs ≡ is_day k ws
day_wider k [] [] wide = refl
day_wider k [] (v ∷ vs) wide = absurd wide
day_wider k (w ∷ ws) [] wide = absurd wide
day_wider k (w ∷ ws) (v ∷ vs) wide = ap (λ (n : ℕ). nat_eq n k || is_day k vs) wide.0 ∙ ap (λ (b : Bool). nat_eq w.day k || b) (day_wider k ws vs wide.2)

none_wider : (ws vs : List WordDay) → Wider ws vs → vs ≡ [] → ws ≡ []
none_wider [] vs wide is = refl
none_wider (w ∷ ws) [] wide is = absurd wide
none_wider (w ∷ ws) (v ∷ vs) wide is = absurd (cc)

none_back : (ws vs : List WordDay) → Wider ws vs → ws ≡ [] → vs ≡ []
none_back [] [] wide is = refl
none_back [] (v ∷ vs) wide is = absurd wide
none_back (w ∷ ws) vs wide is = absurd (cc)

-- MORE WORDS of the expected days, and more bytes, keep what is said of a card
pub retains_wider : (length slack more marked : ℕ) (expected wider : List WordDay) (all : List Entry) (days : List WordDay) (shown : List Entry) → slack ≤ more → Wider expected wider
    → CardRetains length slack marked expected all days shown → CardRetains length more marked wider all days shown
retains_wider length slack more marked expected wider all days shown le wide r =
    let p = parted r.gone r.there wider (subst (λ (l : List WordDay). Wider l wider) r.split wide) in
    record {
      gone = p.front;
      there = p.back;
      split = p.is;
      covers = ⊎_elim (λ c. inl (covers_wider r.there p.back days p.rest c))
          (λ b. inr (record {
            older = b.older;
            newest = b.newest;
            before = b.before;
            covers = covers_wider r.there p.back b.older p.rest b.covers;
            further = day_wider marked expected wider wide ∙ b.further;
            empty = b.empty;
          })) r.covers;
      full = full_wider length slack more r.gone p.front r.there p.back le p.first p.rest r.full;
      some = λ none. none_back r.gone p.front p.first (r.some (none_wider r.there p.back p.rest none));
      oldest = r.oldest;
      low = before_wider r.oldest r.gone p.front p.first r.low;
      high = from_wider r.oldest r.there p.back p.rest r.high;
      none = λ none. r.none (none_wider r.there p.back p.rest none);
      entries = r.entries;
    }

-- with the same oldest day
pub retains_oldest : (length slack more marked : ℕ) (expected wider : List WordDay) (all : List Entry) (days : List WordDay) (shown : List Entry) (le : slack ≤ more) (wide : Wider expected wider) (r : CardRetains length slack marked expected all days shown)
    → (retains_wider length slack more marked expected wider all days shown le wide r).oldest ≡ r.oldest
unfolding retains_wider
retains_oldest length slack more marked expected wider all days shown le wide r = refl

-- ---- entries by hand count as words of their day

-- so many words more on the newest day
abbrev more_by : ℕ → List WordDay → List WordDay
more_by zero ds = ds
more_by (suc n) ds = more_by n (more ds)

more_last : (n : ℕ) (ds : List WordDay) → more (more_by n ds) ≡ more_by n (more ds)
more_last zero ds = refl
more_last (suc n) ds = more_last n (more ds)

newest_by : (n k : ℕ) (ds : List WordDay) → is_newest k (more_by n ds) ≡ is_newest k ds
newest_by zero k ds = refl
newest_by (suc n) k ds = newest_by n k (more ds) ∙ newest_more k ds

count_is : (day before : ℕ) (hs : List Manual) → AreOnDay day before hs → on_day day hs ≡ length hs
count_is day before [] are = refl
count_is day before (h ∷ hs) are = ap (λ (n : ℕ). cond (nat_eq n day) (on_day day hs + 1) (on_day day hs)) are.0 ∙ same day (on_day day hs) ∙ ap (λ (n : ℕ). n + 1) (count_is day before hs are.2) ∙ omega arith
  where
    same : (k n : ℕ) → cond (nat_eq k k) (n + 1) n ≡ n + 1
    same k n = ap (λ (b : Bool). cond b (n + 1) n) (eq k)
      where
        eq : (k : ℕ) → nat_eq k k ≡ true
        eq k = grind (arith, nat_tests)

-- where the newest day is theirs, each adds a word to it
on_newest : (covered day before : ℕ) (hs : List Manual) (ds : List WordDay) → AreOnDay day before hs → is_newest day ds ≡ true
    → (let c : Counted = record { days = ds; before = None } in with_hands covered c hs) ≡ (let c : Counted = record { days = more_by (length hs) ds; before = None } in c)
on_newest covered day before [] ds are newest = refl
on_newest covered day before (h ∷ hs) ds are newest =
    ap (λ (b : Bool). with_hands covered (let c : Counted = record { days = cond b (more ds) (ds ++ (let d : WordDay = record { day = h.minute / 1440; words = first_words h.minute } in d) ∷ []); before = None } in c) hs) (ap (λ (n : ℕ). is_newest n ds) are.0 ∙ newest)
    ∙ on_newest covered day before hs (more ds) are.2 (newest_more day ds ∙ newest)

-- so many words more of the newest day are those of so many entries by hand of it
wider_more : (n day : ℕ) (es : List Manual) (ds : List WordDay) → is_newest day ds ≡ true → n ≤ on_day day es → Wider (more_by n ds) (and_by_hand es ds)
wider_more n day es [] newest le = absurd (cc)
wider_more n day es (d ∷ []) newest le = one n (eqb-true d.day day newest) le
  where
    by_one : (n : ℕ) (d : WordDay) → more_by n (d ∷ []) ≡ (let e : WordDay = record { day = d.day; words = d.words + n } in e) ∷ []
    by_one zero d = ap (λ (m : ℕ). (let e : WordDay = record { day = d.day; words = m } in e) ∷ []) (omega arith)
    by_one (suc n) d = by_one n (record { day = d.day; words = d.words + 1 }) ∙ ap (λ (m : ℕ). (let e : WordDay = record { day = d.day; words = m } in e) ∷ []) (omega arith)

    one : (n : ℕ) → d.day ≡ day → n ≤ on_day day es → Wider (more_by n (d ∷ [])) (and_by_hand es (d ∷ []))
    one n at le = subst (λ (l : List WordDay). Wider l (and_by_hand es (d ∷ []))) (sym (by_one n d)) (refl, omega (arith, le, ap (λ (m : ℕ). on_day m es) at), tt)
wider_more n day es (d ∷ e ∷ ds) newest le = subst (λ (l : List WordDay). Wider l (and_by_hand es (d ∷ e ∷ ds))) (sym (by_front n d e ds)) (refl, omega arith, wider_more n day es (e ∷ ds) newest le)
  where
    by_front : (n : ℕ) (d e : WordDay) (ds : List WordDay) → more_by n (d ∷ e ∷ ds) ≡ d ∷ more_by n (e ∷ ds)
    by_front zero d e ds = refl
    by_front (suc n) d e [] = by_front n d (record { day = e.day; words = e.words + 1 }) []
    by_front (suc n) d e (f ∷ ds) = by_front n d e (more (f ∷ ds))

pub wider_then : (ws vs us : List WordDay) → Wider ws vs → Wider vs us → Wider ws us
wider_then [] [] us one two = two
wider_then [] (v ∷ vs) us one two = absurd one
wider_then (w ∷ ws) [] us one two = absurd one
wider_then (w ∷ ws) (v ∷ vs) [] one two = absurd two
wider_then (w ∷ ws) (v ∷ vs) (u ∷ us) one two = (two.0 ∙ one.0, omega (arith, one.1, two.1), wider_then ws vs us one.2 two.2)

wider_young : (es : List Manual) (ws : List WordDay) (v u : WordDay) → u.day ≡ v.day → v.words ≤ u.words → Wider (and_by_hand es (ws ++ v ∷ [])) (and_by_hand es (ws ++ u ∷ []))
wider_young es [] v u at le = (at, omega (arith, le, ap (λ (n : ℕ). on_day n es) at), tt)
wider_young es (w ∷ ws) v u at le = (refl, omega arith, wider_young es ws v u at le)

newest_append : (k : ℕ) (ws : List WordDay) (v : WordDay) → v.day ≡ k → is_newest k (ws ++ v ∷ []) ≡ true
newest_append k [] v at = eq v.day k at
  where
    eq : (m n : ℕ) → m ≡ n → nat_eq m n ≡ true
    eq m n is = grind (arith, nat_tests)
newest_append k (w ∷ []) v at = newest_append k [] v at
newest_append k (w ∷ x ∷ ws) v at = newest_append k (x ∷ ws) v at

module _ (covered : ℕ) (c : Counted) (e : Entry) (h : Manual) (hs : List Manual) (are : AreOnDay (e.minute / 1440) e.minute (h ∷ hs)) (same : closes covered c.before h.minute c.days ≡ closes covered c.before e.minute c.days)
    (apart : goes_on c.before e ≡ false) where
  abbrev day : ℕ
  day = e.minute / 1440

  abbrev x : List WordDay
  x = closes covered c.before e.minute c.days

  abbrev begun : ℕ → WordDay
  begun minute = record { day = minute / 1440; words = first_words minute }

  abbrev of_days : List WordDay → Counted
  of_days ds = record { days = ds; before = None }

  -- the first of them
  first_is : with_by_hand covered c h.minute ≡ of_days (cond (is_newest day x) (more x) (x ++ begun h.minute ∷ []))
  first_is =
      ap (λ (l : List WordDay). of_days (cond (is_newest (h.minute / 1440) l) (more l) (l ++ begun h.minute ∷ []))) same
      ∙ ap (λ (n : ℕ). of_days (cond (is_newest n x) (more x) (x ++ begun h.minute ∷ []))) are.0

  -- all of them, and the entry, where the newest day is theirs by then
  all_is : (ds : List WordDay) → is_newest (e.minute / 1440) ds ≡ true → (with_entry covered (with_hands covered (of_days ds) hs) e).days ≡ more (more_by (length hs) ds)
  all_is ds newest =
      ap (λ (k : Counted). (with_entry covered k e).days) (on_newest covered (e.minute / 1440) e.minute hs ds are.2 newest)
      ∙ ap (λ (b : Bool). cond b (more (more_by (length hs) ds)) (more_by (length hs) ds ++ begun e.minute ∷ [])) (newest_by (length hs) (e.minute / 1440) ds ∙ newest)

  count : length (h ∷ hs) ≤ on_day (e.minute / 1440) (h ∷ hs)
  count = omega (arith, count_is (e.minute / 1440) e.minute (h ∷ hs) are)

  few : first_words h.minute ≤ first_words e.minute
  few = by (nat_eq (h.minute % 1440) 0) (nat_eq (e.minute % 1440) 0) refl
    where
      by : (a b : Bool) → nat_eq (e.minute % 1440) 0 ≡ b → cond a 1 2 ≤ cond b 1 2
      by true true is = omega arith
      by true false is = omega arith
      by false false is = omega arith
      by false true is = absurd (let zero : e.minute % 1440 ≡ 0 = eqb-true (e.minute % 1440) 0 is in omega (arith, zero, are.0, are.1))

  -- WITH AN ENTRY behind entries by hand of its day the days have no more words than those with the entry and a word more for each
  pub counted_wider : Wider (with_entry covered (with_hands covered c (h ∷ hs)) e).days (and_by_hand (h ∷ hs) (with_entry covered c e).days)
  counted_wider =
      subst (λ (k : Counted). Wider (with_entry covered (with_hands covered k hs) e).days (and_by_hand (h ∷ hs) (with_entry covered c e).days)) (sym first_is) (by (is_newest day x) refl)
    where
      by : (n : Bool) → is_newest day x ≡ n → Wider (with_entry covered (with_hands covered (of_days (cond n (more x) (x ++ begun h.minute ∷ []))) hs) e).days (and_by_hand (h ∷ hs) (with_entry covered c e).days)
      by true is =
          let newest : is_newest day (more x) ≡ true = newest_more day x ∙ is in
          let there : (with_entry covered c e).days ≡ more x = ap (λ (b : Bool). cond b (cond (goes_on c.before e) x (more x)) (x ++ begun e.minute ∷ [])) is ∙ ap (λ (b : Bool). cond b x (more x)) apart in
          subst (λ (l : List WordDay). Wider (with_entry covered (with_hands covered (of_days (more x)) hs) e).days (and_by_hand (h ∷ hs) l)) (sym there)
          (subst (λ (l : List WordDay). Wider l (and_by_hand (h ∷ hs) (more x))) (sym (all_is (more x) newest ∙ more_last (length hs) (more x))) (wider_more (suc (length hs)) day (h ∷ hs) (more x) newest count))
      by false is =
          let newest : is_newest day (x ++ begun h.minute ∷ []) ≡ true = newest_append day x (begun h.minute) are.0 in
          let there : (with_entry covered c e).days ≡ x ++ begun e.minute ∷ [] = ap (λ (b : Bool). cond b (cond (goes_on c.before e) x (more x)) (x ++ begun e.minute ∷ [])) is in
          subst (λ (l : List WordDay). Wider (with_entry covered (with_hands covered (of_days (x ++ begun h.minute ∷ [])) hs) e).days (and_by_hand (h ∷ hs) l)) (sym there)
          (subst (λ (l : List WordDay). Wider l (and_by_hand (h ∷ hs) (x ++ begun e.minute ∷ []))) (sym (all_is (x ++ begun h.minute ∷ []) newest ∙ more_last (length hs) (x ++ begun h.minute ∷ [])))
          (wider_then (more_by (suc (length hs)) (x ++ begun h.minute ∷ [])) (and_by_hand (h ∷ hs) (x ++ begun h.minute ∷ [])) (and_by_hand (h ∷ hs) (x ++ begun e.minute ∷ []))
          (wider_more (suc (length hs)) day (h ∷ hs) (x ++ begun h.minute ∷ []) newest count)
          (wider_young (h ∷ hs) x (begun h.minute) (begun e.minute) (sym are.0) few)))

-- ---- and the count goes on with further entries

more_wider : (es : List Manual) (ws ds : List WordDay) → Wider ws (and_by_hand es ds) → Wider (more ws) (and_by_hand es (more ds))
more_wider es [] [] wide = tt
more_wider es [] (d ∷ ds) wide = absurd wide
more_wider es (w ∷ ws) [] wide = absurd wide
more_wider es (w ∷ []) (d ∷ []) wide = (wide.0, omega (arith, wide.1), tt)
more_wider es (w ∷ []) (d ∷ e ∷ ds) wide = absurd wide.2
more_wider es (w ∷ x ∷ ws) (d ∷ []) wide = absurd wide.2
more_wider es (w ∷ x ∷ ws) (d ∷ e ∷ ds) wide = (wide.0, wide.1, more_wider es (x ∷ ws) (e ∷ ds) wide.2)

young_wider : (es : List Manual) (ws ds : List WordDay) (v : WordDay) → Wider ws (and_by_hand es ds) → Wider (ws ++ v ∷ []) (and_by_hand es (ds ++ v ∷ []))
young_wider es [] [] v wide = (refl, omega arith, tt)
young_wider es [] (d ∷ ds) v wide = absurd wide
young_wider es (w ∷ ws) [] v wide = absurd wide
young_wider es (w ∷ ws) (d ∷ ds) v wide = (wide.0, wide.1, young_wider es ws ds v wide.2)

newest_wider : (es : List Manual) (k : ℕ) (ws ds : List WordDay) → Wider ws (and_by_hand es ds) → is_newest k ws ≡ is_newest k ds
newest_wider es k [] [] wide = refl
newest_wider es k [] (d ∷ ds) wide = absurd wide
newest_wider es k (w ∷ ws) [] wide = absurd wide
newest_wider es k (w ∷ []) (d ∷ []) wide = ap (λ (n : ℕ). nat_eq n k) (sym wide.0)
newest_wider es k (w ∷ []) (d ∷ e ∷ ds) wide = absurd wide.2
newest_wider es k (w ∷ x ∷ ws) (d ∷ []) wide = absurd wide.2
newest_wider es k (w ∷ x ∷ ws) (d ∷ e ∷ ds) wide = newest_wider es k (x ∷ ws) (e ∷ ds) wide.2

closes_wider : (es : List Manual) (covered : ℕ) (before : Option Entry) (n : ℕ) (ws ds : List WordDay) → Wider ws (and_by_hand es ds) → Wider (closes covered before n ws) (and_by_hand es (closes covered before n ds))
closes_wider es covered None n ws ds wide = wide
closes_wider es covered (Some p) n ws ds wide = by (is_closed covered p n)
  where
    by : (b : Bool) → Wider (cond b (more ws) ws) (and_by_hand es (cond b (more ds) ds))
    by true = more_wider es ws ds wide
    by false = wide

adds_wider : (es : List Manual) (before : Option Entry) (e : Entry) (ws ds : List WordDay) → Wider ws (and_by_hand es ds) → Wider (adds before e ws) (and_by_hand es (adds before e ds))
adds_wider es before e ws ds wide =
    subst (λ (b : Bool). Wider (cond b (cond (goes_on before e) ws (more ws)) (ws ++ (let v : WordDay = record { day = e.minute / 1440; words = first_words e.minute } in v) ∷ [])) (and_by_hand es (adds before e ds)))
    (sym (newest_wider es (e.minute / 1440) ws ds wide)) (by (is_newest (e.minute / 1440) ds) (goes_on before e))
  where
    by : (b g : Bool) → Wider (cond b (cond g ws (more ws)) (ws ++ (let v : WordDay = record { day = e.minute / 1440; words = first_words e.minute } in v) ∷ []))
        (and_by_hand es (cond b (cond g ds (more ds)) (ds ++ (let v : WordDay = record { day = e.minute / 1440; words = first_words e.minute } in v) ∷ [])))
    by true true = wide
    by true false = more_wider es ws ds wide
    by false g = young_wider es ws ds (record { day = e.minute / 1440; words = first_words e.minute }) wide

-- A COUNT WITH ENTRIES BY HAND is not above that of the entries and a word for each, whatever entries follow
pub entry_wider : (es : List Manual) (covered : ℕ) (all bare : Counted) (e : Entry) → all.before ≡ bare.before → Wider all.days (and_by_hand es bare.days) → Wider (with_entry covered all e).days (and_by_hand es (with_entry covered bare e).days)
entry_wider es covered all bare e same wide =
    subst (λ (o : Option Entry). Wider (adds o e (closes covered o e.minute all.days)) (and_by_hand es (with_entry covered bare e).days)) (sym same)
    (adds_wider es bare.before e (closes covered bare.before e.minute all.days) (closes covered bare.before e.minute bare.days) (closes_wider es covered bare.before e.minute all.days bare.days wide))

pub expected_wider : (es : List Manual) (covered next : ℕ) (all bare : Counted) → all.before ≡ bare.before → Wider all.days (and_by_hand es bare.days) → Wider (closes covered all.before next all.days) (and_by_hand es (closes covered bare.before next bare.days))
expected_wider es covered next all bare same wide =
    subst (λ (o : Option Entry). Wider (closes covered o next all.days) (and_by_hand es (closes covered bare.before next bare.days))) (sym same) (closes_wider es covered bare.before next all.days bare.days wide)
