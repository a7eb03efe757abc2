-- The session of a card goes on, at each moment of each call on it: a keep, a closing, a note and an insertion.
use Rattle.std.proofs.Common.{◌≡◌, ◌∙◌, ◌⊎◌, inl, inr, ⊎_elim, ℕ, ◌+◌, ◌<◌, ◌≤◌, ◌^◌, List, length, refl, sym, ap, subst, arith}
use Rattle.device_calls.specs.activity_codec.declared.values.Activity.{Activity}
use Rattle.device_calls.specs.activity_codec.declared.values.Activity.TheVariants.{Rest}
use Rattle.device_calls.specs.activity_codec.declared.entries.Entry.{Entry}
use Rattle.tach_media.specs.card_layout.Images.{big_number, SameOutside}
use Rattle.tach_media.proofs.card_layout.Images.{part_before, part_put, put_outside}
use Rattle.tach_media.proofs.card_layout.Numbers.{big_number-big_bytes}
use Rattle.device_calls.specs.tacho_types.declared.texts.Registration.{Registration}
use Rattle.device_calls.specs.tacho_types.Numbers.{time_bytes}
use Rattle.tach_media.specs.card_layout.declared.files.Application.{Application}
use Rattle.tach_media.specs.card_layout.Files.{place_of, image_size_of}
use Rattle.device_calls.specs.card_files.declared.card_event.CardEvent.{CardEvent}
use Rattle.device_calls.specs.card_files.Noting.{IsNotingEvent, IsEventNoted}
use Rattle.device_calls.specs.card_files.declared.current_use.CurrentUse.{CurrentUse}
use Rattle.device_calls.specs.card_model.Days.{Day}
use Rattle.device_calls.specs.card_files.CurrentUses.{current_use_of}
use Rattle.device_calls.specs.card_image.Fields.{file, file_bytes, current_use, session_time}
use Rattle.device_calls.specs.card_session.Books.{closed}
use Rattle.device_calls.specs.card_session.Cards.{IsCard, IsCardClosing}
use Rattle.device_calls.specs.card_session.Inserting.{repaired, IsRepairMoment, During, IsStill, IsRepaired, IsRepairing, IsNoted, IsNoting, IsShut, IsShutting, IsEnded, IsEnding, IsOpening, IsCardInserting, IsCardInserted, timed, registered, unclosed}
use Rattle.device_calls.specs.card_session.Moments.{IsBook, IsCloseMoment}
use Rattle.device_calls.specs.card_session.Sessions.{Session, book_of}
use Rattle.device_calls.specs.card_session.Vehicles.{Vehicles}
use Rattle.device_calls.proofs.card_session.InsertingCards.{use_same}
use Rattle.device_calls.proofs.card_session.InsertingUse.{use_inside}
use Rattle.device_calls.proofs.card_session.InsertingAgain.{noted_keeps}
use Rattle.device_calls.proofs.card_session.Stopping.{session_told, closed_session}
use Rattle.device_calls.specs.CardNotes.{IsNote}
use Rattle.run_devices.specs.Sessions.{SessionGoes, IsNone, IsNoneOr}
use Rattle.run_devices.proofs.CardUse.{note-use, event-use, opened-use}

module _ (app : Application) (May : ℕ → Type 0) where
  -- no call
  pub session-itself : (x : List ℕ) → SessionGoes app May x x
  session-itself x = inl refl

  -- calls one after another
  pub session-then : (x y z : List ℕ) → SessionGoes app May x y → SessionGoes app May y z → SessionGoes app May x z
  session-then x y z first next = ⊎_elim (λ same. subst (λ (t : ℕ). (t ≡ session_time app x) ⊎ May t) (sym same) first) (λ may. inr may) next

  -- what leaves the current use
  pub session-same : (x y : List ℕ) → current_use app y ≡ current_use app x → SessionGoes app May x y
  session-same x y same = inl (ap (λ (u : CurrentUse). u.session.0) same)

  -- or its file
  pub file-session : (x y : List ℕ) → file_bytes app 0x0507 y ≡ file_bytes app 0x0507 x → SessionGoes app May x y
  unfolding current_use
  file-session x y same = session-same x y (ap current_use_of same)

  -- a note
  pub note-session : (x y : List ℕ) → IsNote app x y → SessionGoes app May x y
  note-session x y note = session-same x y (note-use app x y note)

-- with more that may come
pub session-more : (app : Application) (May Now : ℕ → Type 0) → ((t : ℕ) → May t → Now t) → (x y : List ℕ) → SessionGoes app May x y → SessionGoes app Now x y
session-more app May Now more x y goes = ⊎_elim (λ same. inl same) (λ may. inr (more (session_time app y) may)) goes

-- A CLOSING
pub close-session : (s : Session) (act : Activity) (x y : List ℕ) → image_size_of s.application ≤ length x → IsCardClosing s act x y → SessionGoes s.application IsNone x y
close-session s act x y fits (inl card) = session-same s.application IsNone x y (use_same s.application (IsCloseMoment s.application.activity act (book_of s.application x)) x y card)
close-session s act x y fits (inr done) = inr (closed_session s act x y fits done)

-- AN INSERTION, in this second

module _ (app : Application) (registration : Registration) (now : ℕ) (long : length registration.0 ≡ 15) (few : now < 2 ^ 32) where
  -- the current use lies in it
  abbrev Fits : List ℕ → Type 0
  Fits x = place_of app (file 0x0507) + 19 ≤ length x

  abbrev Goes : List ℕ → List ℕ → Type 0
  Goes x y = Fits y × SessionGoes app (IsNoneOr now) x y

  abbrev Step : (List ℕ → List ℕ → Type 0) → Type 0
  Step R = (x y : List ℕ) → Fits x → R x y → Goes x y

  then-goes : (x y z : List ℕ) → Goes x y → Goes y z → Goes x z
  then-goes x y z first next = (next.0, session-then app (IsNoneOr now) x y z first.1 next.1)

  image-goes : (x y : List ℕ) → Fits x → y ≡ x → Goes x y
  image-goes x y fits is = (subst Fits (sym is) fits, session-same app (IsNoneOr now) x y (ap (λ (l : List ℕ). current_use app l) is))

  during-goes : (R S R' : List ℕ → List ℕ → Type 0) → Step R → Step S → Step R' → Step (During R S R')
  during-goes R S R' before done behind x y fits (inl early) = before x y fits early
  during-goes R S R' before done behind x y fits (inr late) =
      let first = done x late.0 fits late.1 in
      then-goes x late.0 y first (behind late.0 y first.0 late.2)

  card-goes : (P : List ℕ → List Day → Vehicles → Type 0) → Step (λ x y. IsCard app (P x) x y)
  card-goes P x y fits is = (let same = is.outside.same_length in omega (arith, fits, same), session-same app (IsNoneOr now) x y (use_same app (P x) x y is))

  noted-goes : Step (IsNoted app now)
  noted-goes x y fits noted = (
    (let same = (noted_keeps app now x y fits noted).1 in omega (arith, fits, same)),
    session-same app (IsNoneOr now) x y (⊎_elim
        (λ held. ap (λ (l : List ℕ). current_use app l) held.1)
        (λ is. event-use app (unclosed (current_use app x) now).kind is.1.place x y is.1.takes.below is.1.entry.outside) noted),
  )

  noting-goes : Step (IsNoting app now)
  noting-goes x y fits noting = (
    (let same : length y ≡ length x = ⊎_elim (λ same. ap (λ (l : List ℕ). length l) same) (λ changed. ⊎_elim (λ absent. absent.outside.same_length) (λ replaced. replaced.outside.same_length) changed) noting.1.entry in omega (arith, fits, same)),
    session-same app (IsNoneOr now) x y (note-use app x y (inl (unclosed (current_use app x) now, noting.1))),
  )

  -- it is ended
  ended-goes : Step (IsEnded app)
  ended-goes x y fits is = (
    (let same = (put_outside (place_of app (file 0x0507)) (time_bytes (record { 0 = 0 })) x (omega (arith, fits))).same_length in
        omega (arith, fits, same, ap (λ (l : List ℕ). length l) is)),
    inr (inl (
        ap (λ (l : List ℕ). session_time app l) is
        ∙ session_told app (timed app 0 x)
        ∙ ap (big_number 4) (part_put (place_of app (file 0x0507)) (time_bytes (record { 0 = 0 })) x (omega (arith, fits)))
        ∙ big_number-big_bytes 4 0 (omega arith))),
  )

  ending-goes : Step (IsEnding app)
  ending-goes x y fits (inl same) = image-goes x y fits same
  ending-goes x y fits (inr ended) = ended-goes x y fits ended

  -- and another is opened: the registration is written behind its time, and then the time
  behind-time : (x y : List ℕ) → SameOutside (place_of app (file 0x0507) + 4) (length registration.0) x y → session_time app y ≡ session_time app x
  behind-time x y outside =
      session_told app y ∙ ap (big_number 4) (part_before (place_of app (file 0x0507) + 4) (length registration.0) (place_of app (file 0x0507)) 4 x y outside (omega arith)) ∙ sym (session_told app x)

  named-outside : (x : List ℕ) → Fits x → SameOutside (place_of app (file 0x0507) + 4) (length registration.0) x (registered app registration x)
  named-outside x fits = put_outside (place_of app (file 0x0507) + 4) registration.0 x (omega (arith, fits, long))

  opening-goes : Step (IsOpening app registration now)
  opening-goes x y fits (inl partly) = ((let same = partly.outside.same_length in omega (arith, fits, same)), inl (behind-time x y partly.outside))
  opening-goes x y fits (inr (inl named)) =
      subst (λ (l : List ℕ). Goes x l) (sym named)
      ((let same = (named-outside x fits).same_length in omega (arith, fits, same)), inl (behind-time x (registered app registration x) (named-outside x fits)))
  opening-goes x y fits (inr (inr begun)) = (
    (let named = (named-outside x fits).same_length in
        let room : place_of app (file 0x0507) + 19 ≤ length (registered app registration x) = omega (arith, fits, named) in
        let same = (put_outside (place_of app (file 0x0507)) (time_bytes (record { 0 = now })) (registered app registration x) (omega (arith, room))).same_length in
        omega (arith, room, same, ap (λ (l : List ℕ). length l) begun)),
    inr (inr (ap (λ (u : CurrentUse). u.session.0) (opened-use app registration now long few x fits y begun))),
  )

  still : Step (IsStill app)
  still = card-goes (λ x. IsBook (book_of app x))

  shut : Step (IsShut app)
  shut = card-goes (λ x. IsBook (closed app.activity Rest (book_of app x)))

  shutting : Step (IsShutting app)
  shutting = card-goes (λ x. IsCloseMoment app.activity Rest (book_of app x))

  repaired-goes : (odometer : ℕ) (owed : List Entry) → Step (IsRepaired app registration odometer owed)
  repaired-goes odometer owed = card-goes (λ x. IsBook (repaired app.activity registration odometer owed (book_of app x)))

  repairing-goes : (odometer : ℕ) (owed : List Entry) → Step (IsRepairing app registration odometer owed)
  repairing-goes odometer owed = card-goes (λ x. IsRepairMoment app.activity registration odometer owed (book_of app x))

  goes-inserting : (odometer : ℕ) (owed : List Entry) → Step (IsCardInserting app registration odometer owed now)
  goes-inserting odometer owed x y fits (inl shut_one) =
      during-goes (IsStill app) (IsStill app) _ still still (during-goes (IsShutting app) (IsShut app) _ shutting shut opening-goes) x y fits shut_one.1
  goes-inserting odometer owed x y fits (inr open_one) =
      during-goes (IsStill app) (IsStill app) _ still still
      (during-goes (IsRepairing app registration odometer owed) (IsRepaired app registration odometer owed) _ (repairing-goes odometer owed) (repaired-goes odometer owed)
      (during-goes (IsNoting app now) (IsNoted app now) _ noting-goes noted-goes
      (during-goes (IsShutting app) (IsShut app) _ shutting shut (during-goes (IsEnding app) (IsEnded app) _ ending-goes ended-goes opening-goes)))) x y fits open_one.1

  pub inserting-session : (odometer : ℕ) (owed : List Entry) (x y : List ℕ) → image_size_of app ≤ length x → IsCardInserting app registration odometer owed now x y → SessionGoes app (IsNoneOr now) x y
  inserting-session odometer owed x y fits inserting = (goes-inserting odometer owed x y (omega (arith, fits, use_inside app)) inserting).1

  -- and behind all of it that of now
  pub inserted-session : (odometer : ℕ) (owed : List Entry) (x y : List ℕ) → image_size_of app ≤ length x → IsCardInserted app registration odometer owed now x y → session_time app y ≡ now
  inserted-session odometer owed x y fits (inl (none, (x1, still_, (x2, shut_, opened_)))) =
      let first = still x x1 (omega (arith, fits, use_inside app)) still_ in
      let next = shut x1 x2 first.0 shut_ in
      ap (λ (u : CurrentUse). u.session.0) (opened-use app registration now long few x2 next.0 y opened_)
  inserted-session odometer owed x y fits (inr (some, (x1, still_, (x2, mended_, (x3, noted_, (x4, shut_, (x5, ended_, opened_))))))) =
      let first = still x x1 (omega (arith, fits, use_inside app)) still_ in
      let second = repaired-goes odometer owed x1 x2 first.0 mended_ in
      let third = noted-goes x2 x3 second.0 noted_ in
      let fourth = shut x3 x4 third.0 shut_ in
      let fifth = ended-goes x4 x5 fourth.0 ended_ in
      ap (λ (u : CurrentUse). u.session.0) (opened-use app registration now long few x5 fifth.0 y opened_)

-- AN EVENT, and a moment of that
pub event-session : (app : Application) (May : ℕ → Type 0) (e : CardEvent) (x y : List ℕ) → IsNotingEvent app e x y → SessionGoes app May x y
event-session app May e x y noting = note-session app May x y (inl (e, noting))

pub noted-session : (app : Application) (May : ℕ → Type 0) (e : CardEvent) (x y : List ℕ) → IsEventNoted app e x y → SessionGoes app May x y
noted-session app May e x y noted = session-same app May x y (event-use app e.kind noted.place x y noted.takes.below noted.entry.outside)
