-- The newest minute of a card whose days are known.
use Rattle.std.proofs.Common.{◌≡◌, ℕ, ◌+◌, ◌/◌, ◌%◌, ◌<◌, ◌≤◌, max, Bool, true, false, cond, Option, Some, None, List, [], ◌∷◌, refl, sym, ◌∙◌, ap, arith}
use Rattle.std.specs.Prelude.{nat_eq}
use Rattle.std.proofs.lemmas.Bool.Decides.{nat_tests}
use Rattle.std.proofs.Math.Nat.{max-eq_left}
use Rattle.activity_codec.specs.Words.{word_minute}
use Rattle.card_layout.specs.declared.files.Application.{Application}
use Rattle.card_files.specs.declared.vehicle.Vehicle.{Vehicle}
use Rattle.card_files.specs.declared.current_use.CurrentUse.{CurrentUse}
use Rattle.card_image.specs.card_model.Days.{Day, AreDays, last_word, total}
use Rattle.card_image.specs.card_model.Image.{newest_pointer}
use Rattle.card_image.specs.card_model.Changes.{OnNewest, date_of, trimmed}
use Rattle.card_image.proofs.card_model.Ascending.{words_below}
use Rattle.card_image.proofs.card_model.Trims.{are_trimmed, trimmed_twice}
use Rattle.card_image.specs.card_retention.Entries.{newest_word}
use Rattle.card_image.proofs.card_retention.Flat.{UpTo, newest_flat}
use Rattle.card_image.proofs.card_retention.Checked.{early_last}
use Rattle.card_days.specs.declared.head.Tail.{Tail}
use Rattle.card_days.specs.Held.{tail_by, tail_in}
use Rattle.card_image.specs.Fields.{last_use_of, end_mark, session_time, card_days}
use Rattle.card_image.specs.View.{counting}
use Rattle.card_validity.specs.declared.files.Judged.{Judged}
use Rattle.card_validity.specs.Judged.{IsKnown}

-- where a trim cuts nothing the newest word is not behind the mark
newest_low : (mark date : ℕ) (d : Day) (ds : List Day) → AreDays date (d ∷ ds) → OnNewest (UpTo mark) (d ∷ ds) → newest_word (d ∷ ds) ≤ mark
newest_low mark date d [] are on = by (nat_eq d.date (date_of mark)) refl
  where
    is_same : (m n : ℕ) → nat_eq m n ≡ true → m ≡ n
    is_same m n is = grind (arith, nat_tests)

    apart : (m n : ℕ) → m ≤ n → nat_eq m n ≡ false → m < n
    apart m n le is = grind (arith, nat_tests)

    by : (b : Bool) → nat_eq d.date (date_of mark) ≡ b → d.date / 60 + word_minute (last_word d.words) ≤ mark
    by true here = let at : d.date ≡ date_of mark = is_same d.date (date_of mark) here in omega (arith, at, early_last (mark % 1440) d.words are.1.ordered (on.last at))
    by false here = omega (arith, apart d.date (date_of mark) on.day here, words_below d.words are.1.ordered, are.1.midnight)
newest_low mark date d (e ∷ ds) are on = newest_low mark d.date e ds are.2 on

flat_low : (mark : ℕ) (ds : List Day) → AreDays 0 ds → trimmed mark ds ≡ ds → newest_word ds ≤ mark
flat_low mark [] are is = omega arith
flat_low mark (d ∷ ds) are is = newest_low mark 0 d ds are (newest_flat mark d ds is)

trimmed_low : (mark : ℕ) (ds : List Day) → AreDays 0 ds → newest_word (trimmed mark ds) ≤ mark
trimmed_low mark ds are = flat_low mark (trimmed mark ds) (are_trimmed mark 0 ds are) (trimmed_twice mark ds)

-- the minute of the word that a string's tail tells, 0 without a day
abbrev pub minute_told : Option Tail → ℕ
minute_told None = 0
minute_told (Some t) = t.head.date.0 / 60 + word_minute t.latest

pub told_newest : (place used : ℕ) (ds : List Day) → minute_told (tail_by place used ds) ≡ newest_word ds
told_newest place used [] = refl
told_newest place used (d ∷ []) = refl
told_newest place used (d ∷ e ∷ ds) = told_newest place used (e ∷ ds)

module _ (app : Application) (x : List ℕ) (j : Judged) (known : IsKnown app x j) where
  abbrev newest : ℕ
  newest = max (end_mark app x) (newest_word (counting (session_time app x) (end_mark app x) (card_days app x)))

  mark_is : last_use_of j.vehicle / 60 ≡ end_mark app x
  mark_is = ap (λ (v : Option Vehicle). last_use_of v / 60) known.vehicle

  session_is : j.current.session.0 ≡ session_time app x
  session_is = ap (λ (u : CurrentUse). u.session.0) known.current

  -- of a card with a session it is the end mark
  pub newest_open : (mark : ℕ) → mark ≡ last_use_of j.vehicle / 60 → nat_eq j.current.session.0 0 ≡ false → mark ≡ newest
  newest_open mark is unclosed =
      is ∙ mark_is ∙ sym (
      ap (λ (b : Bool). max (end_mark app x) (newest_word (cond b (card_days app x) (trimmed (end_mark app x) (card_days app x))))) (ap (λ (s : ℕ). nat_eq s 0) (sym session_is) ∙ unclosed)
      ∙ max-eq_left (trimmed_low (end_mark app x) (card_days app x) known.days.holds.ordered)
      )

  -- of one without a session the later of the end mark and of the newest word
  pub newest_closed : (mark : ℕ) (tail : Option Tail) → mark ≡ last_use_of j.vehicle / 60 → nat_eq j.current.session.0 0 ≡ true → tail ≡ tail_in j.days.shape x (card_days app x) → max mark (minute_told tail) ≡ newest
  newest_closed mark tail is closed told =
      ap (λ (m : ℕ). max m (minute_told tail)) (is ∙ mark_is)
      ∙ ap (λ (t : Option Tail). max (end_mark app x) (minute_told t)) told
      ∙ ap (λ (n : ℕ). max (end_mark app x) n) (told_newest (newest_pointer j.days.shape x) (total (card_days app x)) (card_days app x))
      ∙ sym (ap (λ (b : Bool). max (end_mark app x) (newest_word (cond b (card_days app x) (trimmed (end_mark app x) (card_days app x))))) (ap (λ (s : ℕ). nat_eq s 0) (sym session_is) ∙ closed))
