-- The stored time of a card, by what was judged of it; and the owed entries that it lacks.
use Rattle.std.proofs.Common.{◌≡◌, ℕ, ◌+◌, ◌*◌, ◌<◌, ◌≤◌, max, min, Bool, true, false, cond, Option, List, ◌∷◌, length, drop, sym, ◌∙◌, ap}
use Rattle.std.specs.Prelude.{nat_eq, nat_lt}
use Rattle.std.proofs.lemmas.Bool.{lt-ltb, le-ltb}
use Rattle.activity_codec.specs.declared.entries.Entry.{Entry}
use Rattle.card_layout.specs.declared.files.Application.{Application}
use Rattle.card_files.specs.declared.current_use.CurrentUse.{CurrentUse}
use Rattle.card_days.specs.card_model.Days.{total}
use Rattle.card_days.specs.card_model.Image.{newest_pointer}
use Rattle.card_validity.specs.card_retention.Entries.{newest_word}
use Rattle.card_days.specs.declared.head.Tail.{Tail}
use Rattle.card_days.specs.Held.{tail_in}
use Rattle.card_validity.specs.card_image.Fields.{last_use_of, last_use, session_time, card_days}
use Rattle.card_validity.specs.card_image.View.{card_view}
use Rattle.card_validity.specs.declared.files.Judged.{Judged}
use Rattle.card_validity.specs.Judged.{IsKnown}
use Rattle.card_session.specs.Telling.{minute_told}
use Rattle.card_session.specs.Inserting.{lacked}
use Rattle.card_session.proofs.InsertingLoop.{this, rest_is}
use Rattle.card_session.proofs.InsertingTaking.{newest_tail}

module _ (app : Application) (x : List ℕ) (j : Judged) (known : IsKnown app x j) where
  used_is : last_use_of j.vehicle ≡ last_use app x
  used_is = ap last_use_of known.vehicle

  session_is : nat_eq (session_time app x) 0 ≡ nat_eq j.current.session.0 0
  session_is = ap (λ (u : CurrentUse). nat_eq u.session.0 0) (sym known.current)

  -- of a card with a session it is the last use
  pub stored_open : (used : ℕ) → used ≡ last_use_of j.vehicle → nat_eq j.current.session.0 0 ≡ false → used ≡ (card_view app x).stored
  unfolding card_view
  stored_open used is unclosed =
      is ∙ used_is
      ∙ sym (ap (λ (b : Bool). cond b (max (last_use app x) (min 4294967295 (60 * newest_word (card_days app x)))) (last_use app x)) (session_is ∙ unclosed))

  -- of one without a session the later of it and of the newest word's time
  pub stored_closed : (used : ℕ) (tail : Option Tail) → used ≡ last_use_of j.vehicle → nat_eq j.current.session.0 0 ≡ true → tail ≡ tail_in j.days.shape x (card_days app x)
      → max used (min 4294967295 (60 * minute_told tail)) ≡ (card_view app x).stored
  unfolding card_view
  stored_closed used tail is closed told =
      ap (λ (u : ℕ). max u (min 4294967295 (60 * minute_told tail))) (is ∙ used_is)
      ∙ ap (λ (t : Option Tail). max (last_use app x) (min 4294967295 (60 * minute_told t))) told
      ∙ ap (λ (n : ℕ). max (last_use app x) (min 4294967295 (60 * n))) (newest_tail (newest_pointer j.days.shape x) (total (card_days app x)) (card_days app x))
      ∙ sym (ap (λ (b : Bool). cond b (max (last_use app x) (min 4294967295 (60 * newest_word (card_days app x)))) (last_use app x)) (session_is ∙ closed))

-- ---- what a card lacks

module _ (mark : ℕ) (es : List Entry) (i : ℕ) (low : i < length es) where
  here : lacked mark (drop i es) ≡ cond (nat_lt mark (this es i low).minute) (this es i low ∷ drop (i + 1) es) (lacked mark (drop (i + 1) es))
  here = ap (lacked mark) (rest_is es i low)

  pub lacked_from : mark < (this es i low).minute → lacked mark (drop i es) ≡ drop i es
  lacked_from is = here ∙ ap (λ (b : Bool). cond b (this es i low ∷ drop (i + 1) es) (lacked mark (drop (i + 1) es))) (lt-ltb mark (this es i low).minute is) ∙ sym (rest_is es i low)

  pub lacked_next : (this es i low).minute ≤ mark → lacked mark (drop i es) ≡ lacked mark (drop (i + 1) es)
  lacked_next is = here ∙ ap (λ (b : Bool). cond b (this es i low ∷ drop (i + 1) es) (lacked mark (drop (i + 1) es))) (le-ltb mark (this es i low).minute is)
