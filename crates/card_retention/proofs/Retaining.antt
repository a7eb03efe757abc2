-- The rule that is carried gives the rule that is stated.
use Rattle.std.proofs.Common.{◌≡◌, ◌⊎◌, inl, inr, ⊎_elim, ℕ, suc, ◌/◌, ◌≤◌, Bool, true, false, cond, ◌||◌, ◌&&◌, List, [], ◌∷◌, refl, sym, ◌∙◌, ap, arith}
use Rattle.std.specs.Prelude.{nat_eq, nat_le, nat_lt}
use Rattle.std.proofs.lemmas.Bool.{le-leb, leb-true}
use Rattle.std.proofs.lemmas.Bool.Decides.{nat_tests}
use Rattle.activity_codec.specs.declared.entries.Entry.{Entry}
use Rattle.card_model.specs.Days.{Day}
use Rattle.card_retention.specs.Expected.{WordDay, more, Counted, expected_days}
use Rattle.card_retention.specs.Shown.{Covers, Bound, InDays, AllFrom, AllIn, Grows, sizes, is_open, owing, Rests}
use Rattle.card_retention.specs.Retains.{entries_from, is_day, entries_in, CardRetains}
use Rattle.card_retention.proofs.Growing.{covers_fewer}

pub covers_from : (o : ℕ) (ws ds : List WordDay) → AllFrom o ws → Covers ws ds → AllFrom o ds
covers_from o ws [] f c = tt
covers_from o [] (d ∷ ds) f c = absurd c
covers_from o (w ∷ ws) (d ∷ ds) f c = ⊎_elim (λ m. (omega (arith, f.0, m.0.day), covers_from o ws ds f.1 m.1)) (λ m. covers_from o ws (d ∷ ds) f.1 m) c

pub day_in : (k : ℕ) (ds : List WordDay) → InDays k ds → is_day k ds ≡ true
day_in k [] i = absurd i
day_in k (d ∷ ds) i = by (nat_eq d.day k) (is_day k ds) (⊎_elim (λ same. inl (eq d.day k same)) (λ later. inr (day_in k ds later)) i)
  where
    eq : (m n : ℕ) → m ≡ n → nat_eq m n ≡ true
    eq m n e = grind (arith, nat_tests)

    by : (a b : Bool) → (a ≡ true) ⊎ (b ≡ true) → a || b ≡ true
    by true b e = refl
    by false b e = ⊎_elim (λ a. absurd (cc)) (λ t. t) e

day_low : (k o : ℕ) (ds : List WordDay) → AllFrom o ds → is_day k ds ≡ true → o ≤ k
day_low k o [] f is = absurd (cc)
day_low k o (d ∷ ds) f is = by (nat_eq d.day k) refl is (day_low k o ds f.1)
  where
    eq : (m n : ℕ) → nat_eq m n ≡ true → m ≡ n
    eq m n e = grind (arith, nat_tests)

    by : (a : Bool) → nat_eq d.day k ≡ a → a || is_day k ds ≡ true → (is_day k ds ≡ true → o ≤ k) → o ≤ k
    by true same is rest = omega (arith, f.0, eq d.day k same)
    by false same is rest = rest is

pub is_day_more : (k : ℕ) (ds : List WordDay) → is_day k (more ds) ≡ is_day k ds
is_day_more k [] = refl
is_day_more k (d ∷ []) = refl
is_day_more k (d ∷ e ∷ ds) = ap (λ (b : Bool). nat_eq d.day k || b) (is_day_more k (e ∷ ds))

pub is_day_owing : (n mark k : ℕ) (ds : List Day) → is_day k (owing n mark ds) ≡ is_day k (sizes ds)
is_day_owing n mark k ds = by (is_open mark ds && nat_lt (suc mark) n)
  where
    by : (b : Bool) → is_day k (cond b (more (sizes ds)) (sizes ds)) ≡ is_day k (sizes ds)
    by true = is_day_more k (sizes ds)
    by false = refl

pub same_entries : (o : ℕ) (all : List Entry) (shown days : List WordDay) → AllIn o all shown → AllFrom o shown → ((k : ℕ) → is_day k shown ≡ is_day k days) → entries_in days all ≡ entries_from o all
same_entries o [] shown days w f s = refl
same_entries o (e ∷ all) shown days w f s = by (nat_le o (e.minute / 1440)) refl (is_day (e.minute / 1440) days) refl (same_entries o all shown days w.1 f s)
  where
    by : (b : Bool) → nat_le o (e.minute / 1440) ≡ b → (a : Bool) → is_day (e.minute / 1440) days ≡ a → entries_in days all ≡ entries_from o all
        → cond a (e ∷ entries_in days all) (entries_in days all) ≡ cond b (e ∷ entries_from o all) (entries_from o all)
    by true t true u rest = ap (λ (l : List Entry). e ∷ l) rest
    by false t false u rest = rest
    by true t false u rest = absurd (no (sym u ∙ sym (s (e.minute / 1440)) ∙ day_in (e.minute / 1440) shown (w.0 (leb-true o (e.minute / 1440) t))))
      where
        no : false ≡ true → ⊥
        no x = cc
    by false t true u rest = absurd (no (sym t ∙ le-leb o (e.minute / 1440) (day_low (e.minute / 1440) o shown f (s (e.minute / 1440) ∙ u))))
      where
        no : false ≡ true → ⊥
        no x = cc

-- THE RULE AS STATED: the string has no more than its days and the word that is owed to them, and shows those entries of all whose
-- day it has; so it keeps the rule.
pub retains : (size marked : ℕ) (slack : Bound) (covered from mark : ℕ) (c : Counted) (days : List Day) → Rests size slack covered from mark c days → (n : ℕ) → from ≤ n
    → (held : List WordDay) → Grows held (owing n mark days) → (shown : List Entry) → shown ≡ entries_in (sizes days) slack.all → CardRetains size slack.bytes marked (expected_days covered n c) slack.all held shown
retains size marked slack covered from mark c days r n le held grows shown is =
    let s = r.shows n le in
    record {
      gone = s.gone;
      there = s.there;
      split = s.split;
      covers = inl (covers_fewer s.there held (owing n mark days) grows s.covers);
      full = s.full;
      some = s.some;
      oldest = s.oldest;
      low = s.low;
      high = s.high;
      none = s.none;
      entries = is ∙ same_entries s.oldest slack.all (owing n mark days) (sizes days) s.whole (covers_from s.oldest s.there (owing n mark days) s.high s.covers) (λ k. is_day_owing n mark k days);
    }
