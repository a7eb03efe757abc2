-- The checks of the words of a card's days, one group after the other.
use Rattle.std.proofs.Common.{◌≡◌, ℕ, ◌+◌, ◌%◌, Bool, true, false, cond, Option, Some, None, List, [], ◌++◌, refl, sym, ◌∙◌, ap, arith}
use Rattle.std.specs.Prelude.{nat_eq}
use Rattle.std.proofs.lemmas.List.{append-nil}
use Rattle.card_image.specs.card_model.Days.{Day}
use Rattle.card_image.specs.card_model.Image.{StringShape}
use Rattle.card_image.specs.card_model.Changes.{date_of, until, trimmed, cut, early, with_early, with_newest}
use Rattle.card_image.specs.card_model.Checks.{Check, first_failing}
use Rattle.card_image.proofs.card_model.Judging.{passed_then, failed_then}
use Rattle.card_image.proofs.card_model.Trims.{with_last}
use Rattle.card_image.specs.Judging.{words_placed, rising_checks, newest_rises, words_behind_mark, days_placed, word_checks}
use Rattle.card_validity.specs.declared.walk.Met.{Met}
use Rattle.card_validity.specs.Words.{first_of, limit_of}
use Rattle.card_validity.specs.Walks.{IsLastMet}
use Rattle.card_validity.proofs.Rising.{early_all, newest_rises-last}

pub failing_then : (a b : List Check) → first_failing (a ++ b) ≡ first_of (first_failing a) (first_failing b)
failing_then a b = by (first_failing a) refl
  where
    by : (o : Option ℕ) → first_failing a ≡ o → first_failing (a ++ b) ≡ first_of o (first_failing b)
    by None is = passed_then a b is
    by (Some p) is = failed_then a b p is

pub checks_open : (size oldest mark session : ℕ) (days : List Day) → nat_eq session 0 ≡ false → first_failing (word_checks size oldest mark session days) ≡ first_failing (newest_rises size oldest 0 (trimmed mark days))
checks_open size oldest mark session days is_open =
    ap (λ (t : Bool). first_failing (cond t (words_behind_mark mark (days_placed size oldest 0 days)) [] ++ (newest_rises size oldest 0 (trimmed mark days) ++ cond t (newest_rises size oldest 0 days) []))) is_open
    ∙ ap first_failing (append-nil (newest_rises size oldest 0 (trimmed mark days)))

pub checks_closed : (size oldest mark session : ℕ) (days : List Day) → nat_eq session 0 ≡ true
    → first_failing (word_checks size oldest mark session days) ≡ first_of (first_failing (words_behind_mark mark (days_placed size oldest 0 days))) (first_of (first_failing (newest_rises size oldest 0 (trimmed mark days))) (first_failing (newest_rises size oldest 0 days)))
checks_closed size oldest mark session days is_closed =
    ap (λ (t : Bool). first_failing (cond t (words_behind_mark mark (days_placed size oldest 0 days)) [] ++ (newest_rises size oldest 0 (trimmed mark days) ++ cond t (newest_rises size oldest 0 days) []))) is_closed
    ∙ failing_then (words_behind_mark mark (days_placed size oldest 0 days)) (newest_rises size oldest 0 (trimmed mark days) ++ newest_rises size oldest 0 days)
    ∙ ap (λ (o : Option ℕ). first_of (first_failing (words_behind_mark mark (days_placed size oldest 0 days))) o) (failing_then (newest_rises size oldest 0 (trimmed mark days)) (newest_rises size oldest 0 days))

-- of the newest of some days
module _ (size oldest : ℕ) (r : StringShape) (x : List ℕ) (ds : List Day) (m : Met) (last : IsLastMet r x ds m) where
  pub newest_rises-met : newest_rises size oldest 0 ds ≡ rising_checks (words_placed size oldest (m.so_far + 12) last.day.date (early 2047 last.day.words))
  newest_rises-met =
      ap (newest_rises size oldest 0) last.are ∙ newest_rises-last size oldest 0 last.older last.day m.so_far (omega (arith, last.met.so_far))
      ∙ ap (λ (ws : List ℕ). rising_checks (words_placed size oldest (m.so_far + 12) last.day.date ws)) (sym (early_all last.day.words))

-- and of the newest up to the mark, as it is cut
cut_words : (mark : ℕ) (d : Day) → (cut mark d).words ≡ early (limit_of mark d.date) d.words
cut_words mark d = by (nat_eq d.date (date_of mark))
  where
    by : (t : Bool) → (let e : Day = cond t (with_early (mark % 1440) d) d in e).words ≡ early (cond t (mark % 1440) 2047) d.words
    by true = refl
    by false = sym (early_all d.words)

cut_day : (mark : ℕ) (d : Day) → (cut mark d).date ≡ d.date
cut_day mark d = by (nat_eq d.date (date_of mark))
  where
    by : (t : Bool) → (let e : Day = cond t (with_early (mark % 1440) d) d in e).date ≡ d.date
    by true = refl
    by false = refl

module _ (size oldest mark : ℕ) (r : StringShape) (x : List ℕ) (days : List Day) where
  pub cut_rises-none : until (date_of mark) days ≡ [] → newest_rises size oldest 0 (trimmed mark days) ≡ []
  cut_rises-none none = ap (λ (l : List Day). newest_rises size oldest 0 (with_newest (cut mark) l)) none

  pub cut_rises-met : (m : Met) (last : IsLastMet r x (until (date_of mark) days) m)
      → newest_rises size oldest 0 (trimmed mark days) ≡ rising_checks (words_placed size oldest (m.so_far + 12) last.day.date (early (limit_of mark last.day.date) last.day.words))
  cut_rises-met m last =
      let d = last.day in
      ap (λ (l : List Day). newest_rises size oldest 0 (with_newest (cut mark) l)) last.are
      ∙ ap (newest_rises size oldest 0) (with_last (cut mark) last.older d)
      ∙ newest_rises-last size oldest 0 last.older (cut mark d) m.so_far (omega (arith, last.met.so_far))
      ∙ ap (λ (n : ℕ). rising_checks (words_placed size oldest (m.so_far + 12) n (cut mark d).words)) (cut_day mark d)
      ∙ ap (λ (ws : List ℕ). rising_checks (words_placed size oldest (m.so_far + 12) d.date ws)) (cut_words mark d)
