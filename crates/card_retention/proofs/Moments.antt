-- The newest minute over a keep, a bound that may only grow, and a trim.
use Rattle.std.proofs.Common.{◌≡◌, ℕ, suc, ◌/◌, ◌%◌, ◌<◌, ◌≤◌, max, Bool, true, false, cond, not, ◌&&◌, Some, List, [], ◌∷◌, refl, ◌∙◌, ap, arith}
use Rattle.std.specs.Prelude.{nat_eq}
use Rattle.std.proofs.lemmas.Bool.Decides.{nat_tests}
use Rattle.std.proofs.Math.Nat.{max-eq_left}
use Rattle.activity_codec.specs.declared.entries.Entry.{Entry}
use Rattle.activity_codec.specs.Words.{word_absent}
use Rattle.card_model.specs.Days.{Day, last_word}
use Rattle.card_model.specs.Changes.{OnNewest, date_of}
use Rattle.card_retention.specs.Expected.{Counted}
use Rattle.card_retention.specs.Shown.{Bound, entry_state, is_open, Tells, Rests}
use Rattle.card_retention.specs.Entries.{newest_word, closed_at, newest_minute}
use Rattle.card_retention.proofs.Closing.{present_word}
use Rattle.card_retention.proofs.Flat.{Ends}

-- the next entry may be promised later
pub rests_later : (size : ℕ) (slack : Bound) (covered from to mark : ℕ) (c : Counted) (days : List Day) → from ≤ to → Rests size slack covered from mark c days → Rests size slack covered to mark c days
rests_later size slack covered from to mark c days le r = record {
  ordered = r.ordered;
  rising = r.rising;
  filled = r.filled;
  top = r.top;
  words = r.words;
  entry = r.entry;
  low = r.low;
  next = omega (arith, r.next, le);
  later = omega (arith, r.later, le);
  by_mark = r.by_mark;
  tells = r.tells;
  shows = λ n at. r.shows n (omega (arith, le, at));
}

-- AFTER A KEEP it is the minute behind the entry, or the entry's where that is a day's last
present : (e : Entry) (w : ℕ) → w / 2048 ≡ entry_state e → word_absent w ≡ false
present e w state = by (word_absent w) refl
  where
    by : (a : Bool) → word_absent w ≡ a → word_absent w ≡ false
    by true is = absurd (present_word e w state is)
    by false is = is

pub kept_newest : (e : Entry) (ds : List Day) → Tells e ds → OnNewest (Ends e.minute) ds → newest_minute e.minute ds ≡ closed_at (Some e)
kept_newest e [] tells ends = absurd tells
kept_newest e (d ∷ []) tells ends = by (nat_eq (suc e.minute % 1440) 0) refl
  where
    same : (m n : ℕ) → m ≡ n → nat_eq m n ≡ true
    same m n is = grind (arith, nat_tests)

    apart : (m n : ℕ) → (m ≡ n → ⊥) → nat_eq m n ≡ false
    apart m n is = grind (arith, nat_tests)

    eq : (m n : ℕ) → nat_eq m n ≡ true → m ≡ n
    eq m n is = grind (arith, nat_tests)

    zero_not : (m : ℕ) → nat_eq m 0 ≡ false → 0 < m
    zero_not m is = grind (arith, nat_tests)

    both : (a b : Bool) → b ≡ false → a && not b ≡ a
    both true false is = refl
    both false false is = refl
    both true true is = absurd (cc)
    both false true is = absurd (cc)

    opens : is_open e.minute (d ∷ []) ≡ nat_eq d.date (date_of (suc e.minute))
    opens = both (nat_eq d.date (date_of (suc e.minute))) (word_absent (last_word d.words)) (present e (last_word d.words) tells.state)

    by : (m : Bool) → nat_eq (suc e.minute % 1440) 0 ≡ m → cond (is_open e.minute (d ∷ [])) (suc e.minute) (max e.minute (newest_word (d ∷ []))) ≡ cond m e.minute (suc e.minute)
    by true is =
        let at : suc e.minute % 1440 ≡ 0 = eq (suc e.minute % 1440) 0 is in
        ap (λ (b : Bool). cond b (suc e.minute) (max e.minute (newest_word (d ∷ [])))) (opens ∙ apart d.date (date_of (suc e.minute)) (λ s. omega (arith, s, tells.date, at)))
        ∙ max-eq_left (omega (arith, ends.day, ends.last))
    by false is =
        ap (λ (b : Bool). cond b (suc e.minute) (max e.minute (newest_word (d ∷ [])))) (opens ∙ same d.date (date_of (suc e.minute)) (omega (arith, tells.date, zero_not (suc e.minute % 1440) is)))
kept_newest e (d ∷ f ∷ ds) tells ends = kept_newest e (f ∷ ds) tells ends
