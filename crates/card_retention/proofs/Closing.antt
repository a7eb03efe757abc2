-- The closing word of an insertion or a withdrawal, and the session between two calls.
use Rattle.std.proofs.Common.{◌≡◌, ℕ, suc, ◌+◌, ◌-◌, ◌*◌, ◌/◌, ◌%◌, ◌<◌, ◌≤◌, Bool, true, false, cond, ◌&&◌, not, List, [], ◌∷◌, ◌++◌, length, refl, sym, ◌∙◌, ap, subst, arith}
use Rattle.std.specs.Prelude.{nat_eq, nat_lt}
use Rattle.activity_codec.specs.declared.entries.Entry.{Entry}
use Rattle.std.specs.Prelude.{◌==◌}
use Rattle.std.proofs.lemmas.Bool.{eqb-true, lt-ltb}
use Rattle.activity_codec.specs.declared.values.Activity.{Activity}
use Rattle.activity_codec.specs.declared.values.Activity.TheVariants as activity
use Rattle.activity_codec.specs.Words.{word_absent, activity_number, word_minute}
use Rattle.card_model.specs.Days.{Day, AreDays, last_word}
use Rattle.card_model.specs.Changes.{fitting, with_newest, with_word, new_day, OnNewest, date_of, trimmed}
use Rattle.card_retention.specs.Expected.{WordDay, more, Counted, with_entry, expected_days}
use Rattle.card_retention.specs.Shown.{Bound, AllUpTo, Rising, Shows, sizes, entry_state, is_open, owing, Tells, Rests, with_closing, Entered, Entered.Same, Entered.Word, Entered.Begun, EndsAbsent, Sound, Sound.Flat, Sound.Tail, Lives}
use Rattle.card_model.proofs.Retention.{remain_fitting}
use Rattle.card_retention.proofs.Growing.{shows_left, left_more, left_of, sizes_word}
use Rattle.card_retention.proofs.Entering.{with_all, closes_is, rising_more, both, fits_sizes, before_later, kept_rests, on_word, on_append, last_append, date_newest}
use Rattle.card_model.proofs.Trims.{trimmed_twice}
use Rattle.card_retention.proofs.Stops.{absent_shut, on_left}
use Rattle.card_retention.proofs.Flat.{Ends, flat_more, flat_ends}

-- a string that was trimmed to its mark
pub lives_trimmed : (size : ℕ) (slack : Bound) (covered from mark : ℕ) (c : Counted) (days : List Day) → Rests size slack covered from mark c (trimmed mark days) → Lives size slack covered from mark c (trimmed mark days)
lives_trimmed size slack covered from mark c days r = record { rests = r; sound = Flat (trimmed_twice mark days) }

-- an entry's state is not absent
act_low : (a : Activity) → activity_number a ≤ 3
act_low activity.Rest = omega arith
act_low activity.Available = omega arith
act_low activity.Work = omega arith
act_low activity.Driving = omega arith

pub present_word : (e : Entry) (w : ℕ) → w / 2048 ≡ entry_state e → word_absent w ≡ true → ⊥
present_word e w state absent = no (sym (ap (λ (n : ℕ). n == 1) even) ∙ absent)
  where
    even : w / 8192 % 2 ≡ 0
    even = omega (arith, state, act_low e.act)

    no : (0 == 1) ≡ true → ⊥
    no is = cc

pub absent_tells : (e : Entry) (ds : List Day) → EndsAbsent ds → Tells e ds → ⊥
absent_tells e [] absent tells = tells
absent_tells e (d ∷ []) absent tells = present_word e (last_word d.words) tells.state absent
absent_tells e (d ∷ f ∷ ds) absent tells = absent_tells e (f ∷ ds) absent tells

absent_word : (e : Entry) (w : ℕ) (ds : List Day) → word_absent w ≡ true → Tells e (with_newest (with_word w) ds) → EndsAbsent (with_newest (with_word w) ds)
absent_word e w [] absent t = t
absent_word e w (d ∷ []) absent t = ap word_absent (last_append d.words w) ∙ absent
absent_word e w (d ∷ f ∷ []) absent t = ap word_absent (last_append f.words w) ∙ absent
absent_word e w (d ∷ f ∷ g ∷ ds) absent t = absent_word e w (f ∷ g ∷ ds) absent t

-- the days of the string have a newest
open_some : (mark : ℕ) (ds : List Day) → is_open mark ds ≡ true → OnNewest (λ d. d.date ≡ date_of (suc mark)) ds
open_some mark [] is = absurd (cc)
open_some mark (d ∷ []) is = eqb-true d.date (date_of (suc mark)) (both (nat_eq d.date (date_of (suc mark))) (not (word_absent (last_word d.words))) is).0
open_some mark (d ∷ e ∷ ds) is = open_some mark (e ∷ ds) is

module _ (size : ℕ) (slack : Bound) (covered from mark : ℕ) (c : Counted) (days : List Day) (l : Lives size slack covered from mark c days) (long : 5544 ≤ size) (least : 16 ≤ slack.bytes) where
  -- the closing word stands in the string; the mark may or may not have moved to it
  pub closed_rests : (w to : ℕ) → is_open mark days ≡ true → word_absent w ≡ true → suc mark < from → mark ≤ to → to ≤ suc mark → AreDays 0 (with_newest (with_word w) (fitting (size - 2) days))
      → Rests size slack covered from to c (with_newest (with_word w) (fitting (size - 2) days))
  closed_rests w to open_is absent promised low high are = record {
    ordered = are;
    rising = l.rests.rising;
    filled = l.rests.filled;
    top = from - 1;
    words = omega (arith, l.rests.words, l.rests.next);
    entry = λ p is. let b = l.rests.entry p is in (omega (arith, b.1, promised), omega (arith, b.1, low));
    low = before_later (suc (l.rests.top / 1440)) (suc ((from - 1) / 1440)) c.days (omega (arith, l.rests.next)) l.rests.low;
    next = omega (arith, promised);
    later = omega (arith, high, promised);
    by_mark = up slack.all l.rests.by_mark;
    tells = λ p is at. absurd (omega (arith, at, (l.rests.entry p is).1, promised));
    shows = shown;
  }
    where
      up : (all : List Entry) → AllUpTo mark all → AllUpTo to all
      up [] u = tt
      up (x ∷ all) u = (omega (arith, u.0, low), up all u.1)

      some : OnNewest (λ d. d.date ≡ date_of (suc mark)) (fitting (size - 2) days)
      some = on_left _ (size - 2) days (fitting (size - 2) days) (fits_sizes 0 (size - 2) days (omega (arith, long)) l.rests.ordered).0 (remain_fitting (size - 2) days) (open_some mark days open_is)

      ends : EndsAbsent (with_newest (with_word w) (fitting (size - 2) days))
      ends = on_word (λ d. d.date ≡ date_of (suc mark)) (λ d. word_absent (last_word d.words) ≡ true) w (fitting (size - 2) days) (λ d is. ap word_absent (last_append d.words w) ∙ absent) some

      shown : (n : ℕ) → from ≤ n → Shows size slack (expected_days covered n c) (owing n to (with_newest (with_word w) (fitting (size - 2) days)))
      shown n le =
          let whole = due (is_open mark days) (nat_lt (suc mark) n) open_is (lt-ltb (suc mark) n (omega (arith, promised, le))) (l.rests.shows n le) in
          let less = shows_left size slack (size - 2) (expected_days covered n c) (more (sizes days)) (more (sizes (fitting (size - 2) days))) (omega (arith, long, least)) (fits_sizes 0 (size - 2) days (omega (arith, long)) l.rests.ordered).1
          (left_more (size - 2) (sizes days) (sizes (fitting (size - 2) days)) (left_of (size - 2) days (fitting (size - 2) days) (remain_fitting (size - 2) days))) (closes_is Rising covered c.before n c.days l.rests.rising (rising_more c.days l.rests.rising)) whole in
          undue (is_open to (with_newest (with_word w) (fitting (size - 2) days))) (nat_lt (suc to) n) (absent_shut to (with_newest (with_word w) (fitting (size - 2) days)) ends)
          (subst (λ (t : List WordDay). Shows size slack (expected_days covered n c) t) (sym (sizes_word w (fitting (size - 2) days))) less)
        where
          due : (o g : Bool) → o ≡ true → g ≡ true → Shows size slack (expected_days covered n c) (cond (o && g) (more (sizes days)) (sizes days)) → Shows size slack (expected_days covered n c) (more (sizes days))
          due true true a b s = s
          due true false a b s = absurd (cc)
          due false g a b s = absurd (cc)

          undue : (o g : Bool) → o ≡ false → Shows size slack (expected_days covered n c) (sizes (with_newest (with_word w) (fitting (size - 2) days)))
              → Shows size slack (expected_days covered n c) (cond (o && g) (more (sizes (with_newest (with_word w) (fitting (size - 2) days)))) (sizes (with_newest (with_word w) (fitting (size - 2) days))))
          undue false g a s = s
          undue true g a s = absurd (cc)

  -- and the session may go on, the mark at it
  pub closed_lives : (w : ℕ) → is_open mark days ≡ true → word_absent w ≡ true → word_minute w ≡ suc mark % 1440 → suc mark < from → AreDays 0 (with_newest (with_word w) (fitting (size - 2) days))
      → Lives size slack covered from (suc mark) c (with_newest (with_word w) (fitting (size - 2) days))
  closed_lives w open_is absent minute promised are = record {
    rests = closed_rests w (suc mark) open_is absent promised (omega arith) (omega arith) are;
    sound = Flat (flat_ends (suc mark) (with_newest (with_word w) (fitting (size - 2) days)) are
        (on_word (λ d. d.date ≡ date_of (suc mark)) (Ends (suc mark)) w (fitting (size - 2) days) (λ d is. record { day = is; last = omega (arith, ap word_minute (last_append d.words w), minute) })
        (on_left _ (size - 2) days (fitting (size - 2) days) (fits_sizes 0 (size - 2) days (omega (arith, long)) l.rests.ordered).0 (remain_fitting (size - 2) days) (open_some mark days open_is))));
  }

  -- after a whole keep the session goes on
  pub kept_lives : (e : Entry) (w : ℕ) (after : List Day) → from ≤ e.minute → word_absent w ≡ true → AreDays 0 (with_closing size w mark e.minute days) → AreDays 0 after → Entered size e (with_closing size w mark e.minute days) after
      → Lives size (with_all slack e) covered (suc e.minute) e.minute (with_entry covered c e) after
  kept_lives e w after later absent are ordered entered = record { rests = kept_rests size slack covered from mark c days l.rests e later long least w are after ordered entered; sound = Flat (flat after ordered entered) }
    where
      written : (b : Bool) → AreDays 0 (cond b (with_newest (with_word w) (fitting (size - 2) days)) days) → Tells e (cond b (with_newest (with_word w) (fitting (size - 2) days)) days) → trimmed e.minute (cond b (with_newest (with_word w) (fitting (size - 2) days)) days) ≡ cond b (with_newest (with_word w) (fitting (size - 2) days)) days
      written true are tells = absurd (absent_tells e (with_newest (with_word w) (fitting (size - 2) days)) (absent_word e w (fitting (size - 2) days) absent tells) tells)
      written false are tells = sounds l.sound
        where
          sounds : Sound mark l.rests.top c.before days → trimmed e.minute days ≡ days
          sounds (Flat is) = flat_more mark e.minute days (omega (arith, l.rests.later, later)) l.rests.ordered is
          sounds (Tail ends fewer apart) = absurd (absent_tells e days ends tells)

      flat : (after : List Day) → AreDays 0 after → Entered size e (with_closing size w mark e.minute days) after → trimmed e.minute after ≡ after
      flat after ordered (Same newest tells) = written (is_open mark days && nat_lt (suc mark) e.minute) are tells
      flat after ordered (Word v newest new state minute) =
          flat_ends e.minute (with_newest (with_word v) (fitting (size - 2) (with_closing size w mark e.minute days))) ordered
          (on_word (λ d. d.date ≡ e.minute / 1440 * 86400) (Ends e.minute) v (fitting (size - 2) (with_closing size w mark e.minute days)) (λ d is. record { day = is; last = omega (arith, ap word_minute (last_append d.words v), minute) })
          (on_left _ (size - 2) (with_closing size w mark e.minute days) (fitting (size - 2) (with_closing size w mark e.minute days)) (fits_sizes 0 (size - 2) (with_closing size w mark e.minute days) (omega (arith, long)) are).0
          (remain_fitting (size - 2) (with_closing size w mark e.minute days)) (date_newest (e.minute / 1440) 0 (with_closing size w mark e.minute days) are newest)))
      flat after ordered (Begun words newest count state minute) =
          flat_ends e.minute (fitting (size - (12 + 2 * length words)) (with_closing size w mark e.minute days) ++ new_day (with_closing size w mark e.minute days) (date_of e.minute) words ∷ []) ordered
          (on_append (Ends e.minute) (fitting (size - (12 + 2 * length words)) (with_closing size w mark e.minute days)) (new_day (with_closing size w mark e.minute days) (date_of e.minute) words) (record { day = refl; last = omega (arith, minute) }))
