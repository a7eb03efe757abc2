-- What the judging of the words of a card makes sure of: a word may follow.
use Rattle.std.proofs.Common.{◌≡◌, ℕ, ◌+◌, ◌/◌, ◌≤◌, Bool, true, false, cond, not, Option, Some, None, List, [], ◌∷◌, ◌++◌, map, filter, refl, sym, ◌∙◌, arith}
use Rattle.std.specs.Prelude.{nat_eq, nat_lt, ◌&&◌}
use Rattle.std.specs.List.{AllByRecursion}
use Rattle.std.proofs.lemmas.Bool.Decides.{nat_tests}
use Rattle.std.proofs.lemmas.Bool.{and_parts}
use Rattle.activity_codec.specs.Words.{word_minute, word_absent}
use Rattle.card_layout.specs.declared.files.Application.{Application}
use Rattle.card_days.specs.card_model.Days.{Day, AreDays, AreWords, last_word, len_of}
use Rattle.card_days.specs.card_model.Changes.{trimmed}
use Rattle.card_days.specs.card_model.Checks.{check, first_failing, first_bad}
use Rattle.card_days.specs.card_model.Image.{oldest_pointer}
use Rattle.card_days.proofs.card_model.Judging.{first_passes}
use Rattle.card_days.proofs.card_model.Trims.{are_trimmed}
use Rattle.card_validity.specs.card_retention.Entries.{EndsBy}
use Rattle.card_validity.specs.card_image.Fields.{day_string, vehicle_ring, place_ring, card_days, end_mark, session_time}
use Rattle.card_validity.specs.card_image.Judging.{PlacedWord, minute_at, words_placed, days_placed, tells_none, leaves_gap, closing_checks, words_behind_mark, newest_rises, word_checks, file_check, first_bad_of, pointer_bad}
use Rattle.card_validity.specs.Words.{first_of}
use Rattle.card_validity.specs.Judged.{first_bad_behind}
use Rattle.card_validity.proofs.Checking.{checks_open, checks_closed}
use Rattle.card_session.specs.Sessions.{EndsStrictly}
use Rattle.card_session.proofs.Valid.{passes_strict}

-- ---- no entry's word behind the mark

abbrev Quiet : ℕ → PlacedWord → Type 0
Quiet mark w = nat_lt mark (minute_at w) ≡ true → tells_none w ≡ true

all_none : (ws : List PlacedWord) → first_failing (map (λ (v : PlacedWord). check (tells_none v) v.place) ws) ≡ None → AllByRecursion (λ (v : PlacedWord). tells_none v ≡ true) ws
all_none [] is = tt
all_none (w ∷ ws) is = let one = first_passes (tells_none w) w.place (map (λ (v : PlacedWord). check (tells_none v) v.place) ws) is in (one.0, all_none ws one.1)

closing_none : (mark : ℕ) (latest : Option PlacedWord) (ws : List PlacedWord) → first_failing (closing_checks mark latest ws) ≡ None → AllByRecursion (λ (v : PlacedWord). tells_none v ≡ true) ws
closing_none mark latest [] is = tt
closing_none mark latest (w ∷ ws) is =
    let one = first_passes (tells_none w && not (leaves_gap mark latest w)) w.place (map (λ (v : PlacedWord). check (tells_none v) v.place) ws) is in
    ((and_parts (tells_none w) (not (leaves_gap mark latest w)) one.0).0, all_none ws one.1)

quiet : (mark : ℕ) (ws : List PlacedWord) → AllByRecursion (λ (v : PlacedWord). tells_none v ≡ true) (filter (λ (w : PlacedWord). nat_lt mark (minute_at w)) ws) → AllByRecursion (Quiet mark) ws
quiet mark [] all = tt
quiet mark (w ∷ ws) all = by (nat_lt mark (minute_at w)) refl (quiet mark ws) all
  where
    by : (b : Bool) → nat_lt mark (minute_at w) ≡ b → (AllByRecursion (λ (v : PlacedWord). tells_none v ≡ true) (filter (λ (w : PlacedWord). nat_lt mark (minute_at w)) ws) → AllByRecursion (Quiet mark) ws)
        → AllByRecursion (λ (v : PlacedWord). tells_none v ≡ true) (cond b (w ∷ filter (λ (w : PlacedWord). nat_lt mark (minute_at w)) ws) (filter (λ (w : PlacedWord). nat_lt mark (minute_at w)) ws))
        → AllByRecursion (Quiet mark) (w ∷ ws)
    by true is rest all = (λ late. all.0, rest all.1)
    by false is rest all = (λ late. absurd (cc), rest all)

behind : (P : PlacedWord → Type 0) (a b : List PlacedWord) → AllByRecursion P (a ++ b) → AllByRecursion P b
behind P [] b all = all
behind P (w ∷ a) b all = behind P a b all.1

front : (P : PlacedWord → Type 0) (a b : List PlacedWord) → AllByRecursion P (a ++ b) → AllByRecursion P a
front P [] b all = tt
front P (w ∷ a) b all = (all.0, front P a b all.1)

last_quiet : (mark size oldest k date w : ℕ) (ws : List ℕ) → AllByRecursion (Quiet mark) (words_placed size oldest k date (w ∷ ws)) → word_absent (last_word (w ∷ ws)) ≡ false → date / 60 + word_minute (last_word (w ∷ ws)) ≤ mark
last_quiet mark size oldest k date w [] all present = by (nat_lt mark (date / 60 + word_minute w)) refl
  where
    not_less : (m n : ℕ) → nat_lt m n ≡ false → n ≤ m
    not_less m n is = grind (arith, nat_tests)

    by : (b : Bool) → nat_lt mark (date / 60 + word_minute w) ≡ b → date / 60 + word_minute w ≤ mark
    by true is = let none : word_absent w ≡ true = all.0 is in absurd (cc)
    by false is = not_less mark (date / 60 + word_minute w) is
last_quiet mark size oldest k date w (v ∷ ws) all present = last_quiet mark size oldest (k + 2) date v ws all.1 present

day_quiet : (mark size oldest k date : ℕ) (ws : List ℕ) → AreWords ws → AllByRecursion (Quiet mark) (words_placed size oldest k date ws) → word_absent (last_word ws) ≡ false → date / 60 + word_minute (last_word ws) ≤ mark
day_quiet mark size oldest k date [] are all present = absurd are
day_quiet mark size oldest k date (w ∷ ws) are all present = last_quiet mark size oldest k date w ws all present

ends_quiet : (mark size oldest k date : ℕ) (ds : List Day) → AreDays date ds → AllByRecursion (Quiet mark) (days_placed size oldest k ds) → EndsBy mark ds
ends_quiet mark size oldest k date [] are all = tt
ends_quiet mark size oldest k date (d ∷ []) are all = day_quiet mark size oldest (k + 12) d.date d.words are.1.ordered (front (Quiet mark) (words_placed size oldest (k + 12) d.date d.words) (days_placed size oldest (k + len_of d) []) all)
ends_quiet mark size oldest k date (d ∷ e ∷ ds) are all =
    ends_quiet mark size oldest (k + len_of d) d.date (e ∷ ds) are.2 (behind (Quiet mark) (words_placed size oldest (k + 12) d.date d.words) (days_placed size oldest (k + len_of d) (e ∷ ds)) all)

-- ---- of a card that passed

last_none : (a b c d : Option ℕ) → first_bad_of (file_check 0x0504 a ∷ file_check 0x0505 b ∷ file_check 0x0506 c ∷ file_check 0x0504 d ∷ []) ≡ None → d ≡ None
last_none (Some p) b c d is = absurd (cc)
last_none None (Some p) c d is = absurd (cc)
last_none None None (Some p) d is = absurd (cc)
last_none None None None (Some p) is = absurd (cc)
last_none None None None None is = refl

pub first_none : (a b : Option ℕ) → first_of a b ≡ None → (a ≡ None) × (b ≡ None)
first_none None None is = (refl, refl)
first_none None (Some p) is = absurd (cc)
first_none (Some p) b is = absurd (cc)

-- without a session the words of the days as they stand
module _ (app : Application) (x : List ℕ) (are : AreDays 0 (card_days app x)) (pass : first_failing (word_checks app.activity (oldest_pointer (day_string app) x) (end_mark app x) (session_time app x) (card_days app x)) ≡ None) where
  pub closed_by_words : nat_eq (session_time app x) 0 ≡ true → EndsBy (end_mark app x) (card_days app x) × EndsStrictly (card_days app x)
  closed_by_words is =
      let oldest : ℕ = oldest_pointer (day_string app) x in
      let three = sym (checks_closed app.activity oldest (end_mark app x) (session_time app x) (card_days app x) is) ∙ pass in
      let one = first_none (first_failing (words_behind_mark (end_mark app x) (days_placed app.activity oldest 0 (card_days app x)))) _ three in
      let two = first_none (first_failing (newest_rises app.activity oldest 0 (trimmed (end_mark app x) (card_days app x)))) (first_failing (newest_rises app.activity oldest 0 (card_days app x))) one.1 in (
        ends_quiet (end_mark app x) app.activity oldest 0 0 (card_days app x) are
            (quiet (end_mark app x) (days_placed app.activity oldest 0 (card_days app x)) (closing_none (end_mark app x) _ (filter (λ (w : PlacedWord). nat_lt (end_mark app x) (minute_at w)) (days_placed app.activity oldest 0 (card_days app x))) one.0)),
        passes_strict app.activity oldest 0 0 (card_days app x) are two.1,
      )

module _ (app : Application) (x : List ℕ) (are : AreDays 0 (card_days app x)) (good : first_bad_behind app x ≡ None) where
  abbrev oldest : ℕ
  oldest = oldest_pointer (day_string app) x

  words_pass : first_failing (word_checks app.activity oldest (end_mark app x) (session_time app x) (card_days app x)) ≡ None
  words_pass = last_none (first_bad (day_string app) x) (pointer_bad (vehicle_ring app) x) (pointer_bad (place_ring app) x) (first_failing (word_checks app.activity oldest (end_mark app x) (session_time app x) (card_days app x))) good

  -- with a session that was left open the days that a cut leaves
  pub valid_open : nat_eq (session_time app x) 0 ≡ false → EndsStrictly (trimmed (end_mark app x) (card_days app x))
  valid_open is =
      passes_strict app.activity oldest 0 0 (trimmed (end_mark app x) (card_days app x)) (are_trimmed (end_mark app x) 0 (card_days app x) are)
      (sym (checks_open app.activity oldest (end_mark app x) (session_time app x) (card_days app x) is) ∙ words_pass)

  -- and without one the days as they stand
  pub valid_closed : nat_eq (session_time app x) 0 ≡ true → EndsBy (end_mark app x) (card_days app x) × EndsStrictly (card_days app x)
  valid_closed is = closed_by_words app x are words_pass is
