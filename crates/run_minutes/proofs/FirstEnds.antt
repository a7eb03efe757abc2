-- A session's first keep, with its entries by hand: what the session between knows, what is made of the card's days, and that it would be valid, were
-- the session ended.
use Rattle.std.proofs.Common.{◌≡◌, ◌∙◌, inl, inr, ℕ, ◌<◌, ◌≤◌, List, [], ◌∷◌, length, Option, refl, ap, sym, subst, arith}
use Rattle.activity_codec.specs.declared.entries.Entry.{Entry}
use Rattle.activity_codec.specs.declared.entries.Manual.{Manual}
use Rattle.tacho_types.specs.declared.numbers.Odometer.{Odometer}
use Rattle.tacho_types.specs.declared.texts.Registration.{Registration}
use Rattle.tach_media.specs.card_layout.declared.files.Application.{Application}
use Rattle.tach_media.specs.card_layout.Application.{IsApplication}
use Rattle.tach_media.specs.card_layout.Files.{image_size_of}
use Rattle.hand_model.specs.card_image.Fields.{current_use, session_time}
use Rattle.hand_model.specs.card_image.Judging.{IsValid}
use Rattle.hand_model.proofs.OfDay.{spans}
use Rattle.card_session.specs.Books.{Book, with_entry}
use Rattle.card_session.specs.Sessions.{Session, IsSession, book_of}
use Rattle.card_session.specs.Moments.{IsBook}
use Rattle.card_session.specs.Cards.{MayEnd, grown}
use Rattle.card_session.specs.ByHand.{by_hand}
use Rattle.card_session.proofs.Composing.{told_book}
use Rattle.card_session.proofs.Ended.{keep_ends}
use Rattle.card_session.proofs.InsertingCards.{use_same}
use Rattle.card_session.proofs.Preparing.{used_at}
use Rattle.card_session.proofs.Stopping.{asked_at, days_there, mark_at}
use Rattle.card_session.proofs.Valid.{above_zero}
use Rattle.device_calls.specs.card_by_hand.First.{AreEntered, IsEntering, IsFirstKept, AreHandsOf}
use Rattle.device_calls.proofs.card_by_hand.Along.{rest_hands}
use Rattle.device_calls.proofs.card_by_hand.FirstLaws.{IsSame, same_first, entered_same, ended}
use Rattle.device_calls.proofs.card_by_hand.Fresh.{first_valid}
use Rattle.run_minutes.specs.CardDeeds.{made_by, enters}

-- ---- behind the entries by hand

-- the session of then knows the card, whose length is the same, and its newest minute is earlier than the keep's
pub record StandsBetween (minute : ℕ) (x : List ℕ) (t : Session) (z : List ℕ) : Type 0 where
  pub knows : IsSession t z
  pub later : t.minute < minute
  pub long : length z ≡ length x

pub entered-stands : (minute : ℕ) (hs : List Manual) (s t : Session) (x z : List ℕ) → IsSession s x → AreHandsOf s minute hs → AreEntered hs s t x z → StandsBetween minute x t z
entered-stands minute [] s t x z knows are entered =
    let here : StandsBetween minute x s x = record { knows = knows; later = spans s.minute minute [] are.lie; long = refl } in
    subst (λ (q : Session). StandsBetween minute x q z) (sym entered.0) (subst (λ (l : List ℕ). StandsBetween minute x s l) (sym entered.1) here)
entered-stands minute (h ∷ hs) s t x z knows are entered =
    let rest = entered-stands minute hs entered.0 t entered.1 z entered.3.knows (rest_hands s entered.0 minute h hs are entered.2) entered.4 in
    record { knows = rest.knows; later = rest.later; long = omega (arith, rest.long, entered.3.card.outside.same_length) }

-- it goes by the sizes, the registration and the odometer value of before
pub record IsSameSession (s t : Session) : Type 0 where
  pub application : t.application ≡ s.application
  pub registration : t.registration ≡ s.registration
  pub odometer : t.odometer ≡ s.odometer

pub entered-session : (hs : List Manual) (s t : Session) (x z : List ℕ) → AreEntered hs s t x z → IsSameSession s t
entered-session [] s t x z entered = record {
  application = ap (λ (q : Session). q.application) entered.0;
  registration = ap (λ (q : Session). q.registration) entered.0;
  odometer = ap (λ (q : Session). q.odometer) entered.0;
}
entered-session (h ∷ hs) s t x z entered =
    let rest = entered-session hs entered.0 t entered.1 z entered.4 in
    record {
      application = rest.application ∙ entered.2.application;
      registration = rest.registration ∙ entered.2.registration;
      odometer = rest.odometer ∙ entered.2.odometer;
    }

-- all of them are a moment of themselves
pub entered-moment : (h : Manual) (hs : List Manual) (s t : Session) (x z : List ℕ) → AreEntered (h ∷ hs) s t x z → IsEntering (h ∷ hs) s x z
entered-moment h [] s t x z entered =
    let P : List ℕ → Type 0 = λ l. IsEntering (h ∷ []) s x l in
    subst P (sym entered.4.1) (inl (ended s entered.0 h x entered.1 entered.3))
entered-moment h (g ∷ gs) s t x z entered = inr (entered.0, entered.1, entered.2, entered.3, entered-moment g gs entered.0 t entered.1 z entered.4)

-- ---- the card would be valid, were the session ended

module _ (s t : Session) (hs : List Manual) (e : Entry) (odometer : ℕ) (x y : List ℕ) (sizes : IsApplication s.application) (knows : IsSession s x) (are : AreHandsOf s e.minute hs) (fits : image_size_of s.application ≤ length x)
    (valid : IsValid s.application x) (open_ : 0 < session_time s.application x) (kept : IsFirstKept s t hs e odometer x y) where
  between : StandsBetween e.minute x kept.between kept.card
  between = entered-stands e.minute hs s kept.between x kept.card knows are kept.entered

  same : IsSame x kept.between.application kept.card × (kept.between.application ≡ s.application)
  same = entered_same x hs s kept.between x kept.card kept.entered (same_first s.application x)

  valid-at : (gs : List Manual) → AreHandsOf s e.minute gs → AreEntered gs s kept.between x kept.card → IsValid s.application kept.card
  valid-at [] are entered = subst (IsValid s.application) (sym entered.1) valid
  valid-at (g ∷ gs) are entered =
      first_valid s (g ∷ gs) e odometer x kept.card (record { sizes = sizes; knows = knows; later = spans s.minute e.minute (g ∷ gs) are.lie }) are (record { fits = fits; session = open_; valid = valid })
      (inl (entered-moment g gs s kept.between x kept.card entered))

  open-there : 0 < session_time kept.between.application kept.card
  open-there =
      let there : session_time kept.between.application kept.card ≡ session_time s.application x = same.0.session ∙ ap (λ (a : Application). session_time a x) same.1 in
      omega (arith, there, open_)

  pub first-ends : MayEnd s.application y
  first-ends =
      let app : Application = kept.between.application in
      let room : image_size_of app ≤ length kept.card = omega (arith, ap image_size_of same.1, fits, between.long) in
      subst (λ (a : Application). MayEnd a y) same.1
      (keep_ends app (subst IsApplication (sym same.1) sizes) kept.card room (subst (λ (a : Application). IsValid a kept.card) (sym same.1) (valid-at hs are kept.entered)) (above_zero (session_time app kept.card) open-there) (days_there kept.between kept.card between.knows)
      kept.between.registration odometer (grown kept.between.odometer odometer) e y (asked_at kept.between kept.card e.minute between.later between.knows)
      (record { outside = kept.kept.card.outside; holds = kept.kept.card.holds; points = kept.kept.card.points; told = inr (kept.kept.card.told.0, inr kept.kept.card.told.1) })
      (mark_at app (with_entry app.activity kept.between.registration odometer (grown kept.between.odometer odometer) (book_of app kept.card) e) y kept.kept.card.told.1 ∙ used_at kept.between.registration odometer e.minute (book_of app kept.card).vehicles))

-- ---- what it makes of the days and of the vehicle entries, and that the current use stays

pub entered-book : (hs : List Manual) (s t : Session) (x z : List ℕ) → AreEntered hs s t x z
    → (book_of s.application z ≡ made_by s.application.activity (enters hs) (book_of s.application x)) × (current_use s.application z ≡ current_use s.application x)
entered-book [] s t x z entered = (ap (book_of s.application) entered.1, ap (current_use s.application) entered.1)
entered-book (h ∷ hs) s t x z entered =
    let app : Application = s.application in
    let card = entered.3.card in
    let rest = subst (λ (a : Application). (book_of a z ≡ made_by a.activity (enters hs) (book_of a entered.1)) × (current_use a z ≡ current_use a entered.1)) entered.2.application (entered-book hs entered.0 t entered.1 z entered.4) in
    let full : Book = by_hand app.activity h (book_of app x) in (
      rest.0 ∙ ap (made_by app.activity (enters hs)) (told_book app full x entered.1 card),
      rest.1 ∙ use_same app (IsBook full) x entered.1 card,
    )

pub first-book : (s t : Session) (hs : List Manual) (e : Entry) (odometer : ℕ) (x y : List ℕ) → IsFirstKept s t hs e odometer x y
    → (book_of s.application y ≡ with_entry s.application.activity s.registration odometer (grown s.odometer odometer) (made_by s.application.activity (enters hs) (book_of s.application x)) e)
    × (current_use s.application y ≡ current_use s.application x)
first-book s t hs e odometer x y kept =
    let b : Session = kept.between in
    let same = entered-session hs s b x kept.card kept.entered in
    let before = entered-book hs s b x kept.card kept.entered in
    let full : Book = with_entry b.application.activity b.registration odometer (grown b.odometer odometer) (book_of b.application kept.card) e in
    let one = told_book b.application full kept.card y kept.kept.card in
    let used = use_same b.application (IsBook full) kept.card y kept.kept.card in
    let book = subst (λ (a : Application). book_of a y ≡ with_entry a.activity b.registration odometer (grown b.odometer odometer) (book_of a kept.card) e) same.application one in
    let held = subst (λ (a : Application). current_use a y ≡ current_use a kept.card) same.application used in (
      book
          ∙ ap (λ (r : Registration). with_entry s.application.activity r odometer (grown b.odometer odometer) (book_of s.application kept.card) e) same.registration
          ∙ ap (λ (o : Option Odometer). with_entry s.application.activity s.registration odometer (grown o odometer) (book_of s.application kept.card) e) same.odometer
          ∙ ap (λ (c : Book). with_entry s.application.activity s.registration odometer (grown s.odometer odometer) c e) before.0,
      held ∙ before.1,
    )
