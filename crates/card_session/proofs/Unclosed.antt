-- A valid card without a session, also one whose latest word is an entry's, is valid at each moment of an insertion.
use Rattle.std.proofs.Common.{◌≡◌, inl, inr, ⊎_elim, ℕ, suc, ◌-◌, ◌≤◌, Bool, true, false, cond, None, List, length, sym, ◌∙◌, ap, subst, refl, arith}
use Rattle.activity_codec.specs.declared.values.Activity.TheVariants.{Rest}
use Rattle.activity_codec.specs.declared.entries.Entry.{Entry}
use Rattle.tacho_types.specs.declared.texts.Registration.{Registration}
use Rattle.card_layout.specs.declared.files.Application.{Application}
use Rattle.card_layout.specs.Application.{IsApplication}
use Rattle.card_layout.specs.Files.{image_size_of}
use Rattle.card_days.specs.card_model.Days.{Day, AreDays}
use Rattle.card_days.specs.card_model.Changes.{Remain, fitting, trimmed, with_newest, with_word}
use Rattle.card_days.specs.card_model.Checks.{first_failing}
use Rattle.card_days.specs.card_model.Image.{oldest_pointer}
use Rattle.card_days.proofs.card_model.Retention.{remain_fitting}
use Rattle.card_validity.specs.card_retention.Shown.{is_open}
use Rattle.card_validity.specs.card_retention.Entries.{newest_word}
use Rattle.card_validity.proofs.card_retention.Stops.{are_left}
use Rattle.card_validity.specs.card_image.Fields.{day_string, card_days, end_mark, session_time}
use Rattle.card_validity.specs.card_image.Beside.{HaveSameSizes, HaveSamePlacePointer}
use Rattle.card_validity.specs.card_image.Judging.{days_placed, words_behind_mark, IsValid}
use Rattle.card_session.specs.Books.{Book, mark_of, latest_of, closing_word, with_change, closed_days, closed}
use Rattle.card_session.specs.Sessions.{EndsStrictly, IsOpenBook, book_of}
use Rattle.card_session.specs.Moments.{IsBook, IsCloseMoment}
use Rattle.card_session.specs.Inserting.{IsStill, IsShut, IsShutting, IsOpening, InsertingClosed}
use Rattle.card_session.proofs.Composing.{told_book}
use Rattle.card_session.proofs.Stopping.{book_days, mark_at, closing_absent}
use Rattle.card_session.proofs.Valid.{closing_at, closing_rises, closed_low}
use Rattle.card_session.proofs.NewestStays.{open_low, word_drops}
use Rattle.card_session.proofs.InsertingUse.{use_inside}
use Rattle.card_session.proofs.InsertingOpen.{Same, opening_same}
use Rattle.card_session.proofs.InsertingAgain.{inserting_keeps}
use Rattle.card_session.proofs.Revalid.{Fine, Low, behind_closed, card_fine, beside_fine, beside_low, fine_behind, fine_low, strict_told, low_told, shutting_fine, shut_fine, shut_low}
use Rattle.card_session.proofs.ShutValid.{strict_book, closed_valid}
use Rattle.card_session.proofs.Renewing.{x_may}

module _ (app : Application) (sound : IsApplication app) (x : List ℕ) (fits : image_size_of app ≤ length x) (registration : Registration) (long : length registration.0 ≡ 15) (odometer now : ℕ) (owed : List Entry)
    (valid : IsValid app x) (none : session_time app x ≡ 0) where
  abbrev w : ℕ
  w = closing_word (suc (mark_of (book_of app x))) Rest (latest_of (book_of app x).days)

  -- the days without those that go for that word
  abbrev kept : List Day
  kept = fitting (app.activity - 2) (book_of app x).days

  abbrev Judged : List ℕ → Type 0
  Judged y = HaveSameSizes app x y × HaveSamePlacePointer app x y

  same_judged : (y : List ℕ) → InsertingClosed app registration now x y → Judged y
  same_judged y inserting =
      let same = inserting_keeps app registration odometer now owed long x y (omega (arith, use_inside app, fits)) (inl (none, inserting)) in
      (same.0, same.3)

  module _ (open_ : is_open (mark_of (book_of app x)) (book_of app x).days ≡ true) (x1 : List ℕ) (still : IsStill app x x1) where
    one_is : book_of app x1 ≡ book_of app x
    one_is = told_book app (book_of app x) x x1 still

    may : IsOpenBook (book_of app x)
    may = x_may app sound x fits registration long now valid none x1 still

    are : AreDays 0 (book_of app x).days
    are = subst (λ (k : Book). AreDays 0 k.days) one_is still.holds.ordered

    x_low : newest_word (book_of app x).days ≤ mark_of (book_of app x)
    x_low = open_low app.activity sound.string_least (book_of app x) are Rest may open_

    strict : EndsStrictly (trimmed (mark_of (book_of app x)) (book_of app x).days)
    strict = strict_book app x valid none (subst (λ (ds : List Day). AreDays 0 ds) (book_days app x) are)

    one_fine : Fine app x1
    one_fine = card_fine app sound (IsBook (book_of app x)) x x1 fits still (strict_told app x1 (book_of app x) one_is strict)

    one_low : Low app x1
    one_low = low_told app x1 (book_of app x) one_is x_low

    one_fits : image_size_of app ≤ length x1
    one_fits = omega (arith, fits, still.outside.same_length)

    wide : 2894 ≤ app.activity - 2
    wide = omega (arith, sound.string_least)

    left : Remain (app.activity - 2) (book_of app x).days kept
    left = remain_fitting (app.activity - 2) (book_of app x).days

    kept_low : newest_word kept ≤ mark_of (book_of app x)
    kept_low = omega (arith, word_drops (app.activity - 2) 0 (book_of app x).days kept wide are left, x_low)

    -- ---- a moment of the closing word

    module _ (y : List ℕ) (card : IsShutting app x1 y) (same : Judged y) where
      y_fine : Fine app y
      y_fine = shutting_fine app sound x1 one_fine one_low one_fits y card

      moment : IsCloseMoment app.activity Rest (book_of app x) (book_of app y).days (book_of app y).vehicles
      moment = subst (λ (k : Book). IsCloseMoment app.activity Rest k (book_of app y).days (book_of app y).vehicles) one_is card.told

      -- no word stands behind the old end mark
      waits : (book_of app y).vehicles ≡ (book_of app x).vehicles → newest_word (book_of app y).days ≡ newest_word (book_of app x).days → IsValid app y
      waits mark word =
          fine_low app x y valid same.0 same.1 y_fine
          (subst (λ (ds : List Day). newest_word ds ≤ end_mark app y) (book_days app y) (omega (arith, mark_at app (book_of app x) y mark, word, x_low)))

      -- that word alone does
      stands : (book_of app y).vehicles ≡ (book_of app x).vehicles → (book_of app y).days ≡ closed_days app.activity (mark_of (book_of app x)) Rest (book_of app x).days → IsValid app y
      stands mark there =
          let at : end_mark app y ≡ mark_of (book_of app x) = mark_at app (book_of app x) y mark in
          let days : card_days app y ≡ with_newest (with_word w) kept =
          sym (book_days app y) ∙ there ∙ ap (λ (o : Bool). cond o (with_change app.activity w (book_of app x).days) (book_of app x).days) open_ in
          fine_behind app x y valid same.0 same.1 y_fine
          (subst (λ (n : ℕ). first_failing (words_behind_mark n (days_placed app.activity (oldest_pointer (day_string app) y) 0 (card_days app y))) ≡ None) (sym at)
          (subst (λ (ds : List Day). first_failing (words_behind_mark (mark_of (book_of app x)) (days_placed app.activity (oldest_pointer (day_string app) y) 0 ds)) ≡ None) (sym days)
          (behind_closed (mark_of (book_of app x)) app.activity (oldest_pointer (day_string app) y) w kept (are_left (app.activity - 2) (book_of app x).days kept left are) kept_low
          (closing_absent (suc (mark_of (book_of app x))) Rest (latest_of (book_of app x).days)) (closing_at app.activity sound.string_least (book_of app x) are Rest may open_))))
          (subst EndsStrictly (sym days) (closing_rises app.activity sound.string_least (book_of app x) are Rest may open_))

      -- the end mark is that word's
      moved : IsBook (closed app.activity Rest (book_of app x)) (book_of app y).days (book_of app y).vehicles → IsValid app y
      moved book =
          let is : book_of app y ≡ closed app.activity Rest (book_of app x) =
          told_book app (closed app.activity Rest (book_of app x)) x1 y (record { outside = card.outside; holds = card.holds; points = card.points; told = book }) in
          fine_low app x y valid same.0 same.1 y_fine
          (low_told app y (closed app.activity Rest (book_of app x)) is (closed_low app.activity sound.string_least (book_of app x) are Rest may x_low))

      shutting_valid : IsValid app y
      shutting_valid = ⊎_elim
          (λ old. ⊎_elim
          (λ as_before. waits old.0 (ap newest_word as_before))
          (λ rest. ⊎_elim
          (λ gone. waits old.0 (word_drops (app.activity - 2) 0 (book_of app x).days (book_of app y).days wide are gone))
          (λ there. stands old.0 there) rest.1) old.1)
          (λ book. moved book) moment

    -- ---- a moment of the new session

    module _ (x2 : List ℕ) (shut : IsShut app x1 x2) (y : List ℕ) (opening : IsOpening app registration now x2 y) (same : Judged y) where
      side : Same app x2 y
      side = opening_same app registration now long x2 y (omega (arith, use_inside app, one_fits, shut.outside.same_length)) opening

      opening_valid : IsValid app y
      opening_valid =
          let fine = shut_fine app sound x1 one_fine one_low one_fits x2 shut in
          fine_low app x y valid same.0 same.1 (beside_fine app sound x2 y side.0 side.1 fine)
          (beside_low app sound x2 y side.0 side.1 fine (shut_low app sound x1 one_fine one_low one_fits x2 shut))

  -- ---- at each moment

  unclosed_valid : is_open (mark_of (book_of app x)) (book_of app x).days ≡ true → (y : List ℕ) → InsertingClosed app registration now x y → IsValid app y
  unclosed_valid open_ y (inl still) = let same = same_judged y (inl still) in fine_low app x y valid same.0 same.1 (one_fine open_ y still) (one_low open_ y still)
  unclosed_valid open_ y (inr (x1, still, inl shutting)) = shutting_valid open_ x1 still y shutting (same_judged y (inr (x1, still, inl shutting)))
  unclosed_valid open_ y (inr (x1, still, inr (x2, shut, opening))) = opening_valid open_ x1 still x2 shut y opening (same_judged y (inr (x1, still, inr (x2, shut, opening))))

  open_told : is_open (mark_of (book_of app x)) (book_of app x).days ≡ is_open (end_mark app x) (card_days app x)
  unfolding book_of
  open_told = refl

  pub none_valid : (y : List ℕ) → InsertingClosed app registration now x y → IsValid app y
  none_valid y inserting = by (is_open (mark_of (book_of app x)) (book_of app x).days) refl
    where
      by : (o : Bool) → is_open (mark_of (book_of app x)) (book_of app x).days ≡ o → IsValid app y
      by true is = unclosed_valid is y inserting
      by false is = closed_valid app sound x fits registration long odometer now owed valid none (sym open_told ∙ is) y inserting
