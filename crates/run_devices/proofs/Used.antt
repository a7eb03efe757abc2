-- A card tells of no open session in a third vehicle, at each moment of each call on it: a keep, a closing, an insertion and a note.
use Rattle.std.proofs.Common.{◌≡◌, ◌⊎◌, inl, inr, ℕ, ◌+◌, ◌<◌, ◌≤◌, ◌^◌, List, length, refl, sym, ◌∙◌, ap, subst, arith}
use Rattle.device_calls.specs.activity_codec.declared.values.Activity.{Activity}
use Rattle.device_calls.specs.activity_codec.declared.values.Activity.TheVariants.{Rest}
use Rattle.device_calls.specs.activity_codec.declared.entries.Entry.{Entry}
use Rattle.tach_media.specs.card_layout.Images.{big_number, SameOutside}
use Rattle.tach_media.proofs.card_layout.Images.{part_before, part_put, put_outside}
use Rattle.tach_media.proofs.card_layout.Numbers.{big_number-big_bytes}
use Rattle.device_calls.specs.tacho_types.declared.texts.Registration.{Registration}
use Rattle.device_calls.specs.tacho_types.Numbers.{time_bytes}
use Rattle.tach_media.specs.card_layout.declared.files.Application.{Application}
use Rattle.tach_media.specs.card_layout.Files.{place_of, image_size_of}
use Rattle.device_calls.specs.card_files.declared.current_use.CurrentUse.{CurrentUse}
use Rattle.device_calls.specs.card_image.Fields.{file, current_use, session_time}
use Rattle.device_calls.specs.card_session.Books.{closed}
use Rattle.device_calls.specs.card_session.Sessions.{Session, book_of}
use Rattle.device_calls.specs.card_session.Moments.{IsBook, IsCloseMoment}
use Rattle.device_calls.specs.card_session.Cards.{IsCardClosing}
use Rattle.device_calls.specs.card_session.Inserting.{repaired, IsRepairMoment, IsStill, IsRepaired, IsNoted, IsNoting, IsShut, IsEnded, IsEnding, IsOpening, InsertingClosed, InsertingOpen, IsCardInserting, timed, registered, unclosed}
use Rattle.device_calls.proofs.card_session.InsertingCards.{use_same}
use Rattle.device_calls.proofs.card_session.InsertingUse.{use_inside}
use Rattle.device_calls.proofs.card_session.InsertingAgain.{noted_keeps}
use Rattle.device_calls.proofs.card_session.Stopping.{session_told, closed_session}
use Rattle.device_calls.specs.CardNotes.{IsNote}
use Rattle.run_devices.specs.Registered.{IsUsedSo}
use Rattle.run_devices.proofs.CardUse.{note-use, event-use, opened-use}

module _ (app : Application) (registration : Registration) (start : List ℕ) where
  abbrev Use : List ℕ → Type 0
  Use x = IsUsedSo app registration start x

  -- of a current use
  abbrev Of : CurrentUse → Type 0
  Of u = (u.session.0 ≡ 0) ⊎ ((u ≡ current_use app start) ⊎ (u.registration ≡ registration))

  pub same-used : (x y : List ℕ) → current_use app y ≡ current_use app x → Use x → Use y
  same-used x y same is = subst Of (sym same) is

  pub first-used : Use start
  first-used = inr (inl refl)

  -- a note
  pub note-used : (x y : List ℕ) → IsNote app x y → Use x → Use y
  note-used x y note is = same-used x y (note-use app x y note) is

  -- ---- an insertion
  module _ (now : ℕ) (long : length registration.0 ≡ 15) (few : now < 2 ^ 32) where
    abbrev Fits : List ℕ → Type 0
    Fits x = place_of app (file 0x0507) + 19 ≤ length x

    -- the session time stays where the registration behind it is written
    behind-time : (x y : List ℕ) → SameOutside (place_of app (file 0x0507) + 4) (length registration.0) x y → session_time app y ≡ session_time app x
    behind-time x y outside =
        session_told app y ∙ ap (big_number 4) (part_before (place_of app (file 0x0507) + 4) (length registration.0) (place_of app (file 0x0507)) 4 x y outside (omega arith)) ∙ sym (session_told app x)

    -- it is ended
    ended-time : (x y : List ℕ) → Fits x → IsEnded app x y → session_time app y ≡ 0
    ended-time x y fits is =
        ap (λ (l : List ℕ). session_time app l) is
        ∙ session_told app (timed app 0 x)
        ∙ ap (big_number 4) (part_put (place_of app (file 0x0507)) (time_bytes (record { 0 = 0 })) x (omega (arith, fits)))
        ∙ big_number-big_bytes 4 0 (omega arith)

    ended-fits : (x y : List ℕ) → Fits x → IsEnded app x y → Fits y
    ended-fits x y fits is =
        let same = (put_outside (place_of app (file 0x0507)) (time_bytes (record { 0 = 0 })) x (omega (arith, fits))).same_length in
        omega (arith, fits, same, ap (λ (l : List ℕ). length l) is)

    -- another is opened behind it
    opening-used : (x y : List ℕ) → session_time app x ≡ 0 → Fits x → IsOpening app registration now x y → Use y
    opening-used x y none fits (inl partly) = inl (behind-time x y partly.outside ∙ none)
    opening-used x y none fits (inr (inl named)) =
        inl (ap (λ (l : List ℕ). session_time app l) named ∙ behind-time x (registered app registration x) (put_outside (place_of app (file 0x0507) + 4) registration.0 x (omega (arith, fits, long))) ∙ none)
    opening-used x y none fits (inr (inr begun)) = inr (inr (ap (λ (u : CurrentUse). u.registration) (opened-use app registration now long few x fits y begun)))

    module _ (x : List ℕ) (fits : image_size_of app ≤ length x) (is : Use x) where
      -- what is said of each image on the way: its use is that of before, and it is as long
      abbrev Kept : List ℕ → Type 0
      Kept y = (current_use app y ≡ current_use app x) × (length y ≡ length x)

      room : (y : List ℕ) → Kept y → Fits y
      room y kept = omega (arith, use_inside app, fits, kept.1)

      used-by : (y : List ℕ) → current_use app y ≡ current_use app x → Use y
      used-by y same = same-used x y same is

      still-kept : (y : List ℕ) → IsStill app x y → Kept y
      still-kept y card = (use_same app (IsBook (book_of app x)) x y card, card.outside.same_length)

      shut-kept : (y z : List ℕ) → Kept y → IsShut app y z → Kept z
      shut-kept y z kept card = (use_same app (IsBook (closed app.activity Rest (book_of app y))) y z card ∙ kept.0, card.outside.same_length ∙ kept.1)

      repaired-kept : (odometer : ℕ) (owed : List Entry) (y z : List ℕ) → Kept y → IsRepaired app registration odometer owed y z → Kept z
      repaired-kept odometer owed y z kept card = (use_same app (IsBook (repaired app.activity registration odometer owed (book_of app y))) y z card ∙ kept.0, card.outside.same_length ∙ kept.1)

      noted-use : (y z : List ℕ) → IsNoted app now y z → current_use app z ≡ current_use app y
      noted-use y z (inl held) = ap (λ (l : List ℕ). current_use app l) held.1
      noted-use y z (inr noted) = event-use app (unclosed (current_use app y) now).kind noted.1.place y z noted.1.takes.below noted.1.entry.outside

      noted-kept : (y z : List ℕ) → Kept y → IsNoted app now y z → Kept z
      noted-kept y z kept noted = (noted-use y z noted ∙ kept.0, (noted_keeps app now y z (room y kept) noted).1 ∙ kept.1)

      noting-use : (y z : List ℕ) → IsNoting app now y z → current_use app z ≡ current_use app y
      noting-use y z noting = note-use app y z (inl (unclosed (current_use app y) now, noting.1))

      -- of a card whose session was closed
      closed-used : session_time app x ≡ 0 → (y : List ℕ) → InsertingClosed app registration now x y → Use y
      closed-used none y (inl still) = used-by y (still-kept y still).0
      closed-used none y (inr (x1, still, inl shutting)) = used-by y (use_same app (IsCloseMoment app.activity Rest (book_of app x1)) x1 y shutting ∙ (still-kept x1 still).0)
      closed-used none y (inr (x1, still, inr (x2, shut, opening))) =
          let kept = shut-kept x1 x2 (still-kept x1 still) shut in
          opening-used x2 y (ap (λ (u : CurrentUse). u.session.0) kept.0 ∙ none) (room x2 kept) opening

      -- of one whose session was left open
      module _ (odometer : ℕ) (owed : List Entry) where
        ending-used : (y z : List ℕ) → Kept y → IsEnding app y z → Use z
        ending-used y z kept (inl same) = used-by z (ap (λ (l : List ℕ). current_use app l) same ∙ kept.0)
        ending-used y z kept (inr ended) = inl (ended-time y z (room y kept) ended)

        open-used : (y : List ℕ) → InsertingOpen app registration odometer owed now x y → Use y
        open-used y (inl still) = used-by y (still-kept y still).0
        open-used y (inr (x1, still, inl repairing)) = used-by y (use_same app (IsRepairMoment app.activity registration odometer owed (book_of app x1)) x1 y repairing ∙ (still-kept x1 still).0)
        open-used y (inr (x1, still, inr (x2, mended, inl noting))) = used-by y (noting-use x2 y noting ∙ (repaired-kept odometer owed x1 x2 (still-kept x1 still) mended).0)
        open-used y (inr (x1, still, inr (x2, mended, inr (x3, noted, inl shutting)))) =
            used-by y (use_same app (IsCloseMoment app.activity Rest (book_of app x3)) x3 y shutting ∙ (noted-kept x2 x3 (repaired-kept odometer owed x1 x2 (still-kept x1 still) mended) noted).0)
        open-used y (inr (x1, still, inr (x2, mended, inr (x3, noted, inr (x4, shut, inl ending))))) =
            ending-used x4 y (shut-kept x3 x4 (noted-kept x2 x3 (repaired-kept odometer owed x1 x2 (still-kept x1 still) mended) noted) shut) ending
        open-used y (inr (x1, still, inr (x2, mended, inr (x3, noted, inr (x4, shut, inr (x5, ended, opening)))))) =
            let kept = shut-kept x3 x4 (noted-kept x2 x3 (repaired-kept odometer owed x1 x2 (still-kept x1 still) mended) noted) shut in
            opening-used x5 y (ended-time x4 x5 (room x4 kept) ended) (ended-fits x4 x5 (room x4 kept) ended) opening

        pub inserting-used : (y : List ℕ) → IsCardInserting app registration odometer owed now x y → Use y
        inserting-used y (inl shut) = closed-used shut.0 y shut.1
        inserting-used y (inr unclosed_) = open-used y unclosed_.1

-- ---- by a session

-- a closing
pub close-used : (s : Session) (registration : Registration) (start : List ℕ) (act : Activity) (x y : List ℕ) → image_size_of s.application ≤ length x → IsUsedSo s.application registration start x → IsCardClosing s act x y → IsUsedSo s.application registration start y
close-used s registration start act x y fits is (inl card) = same-used s.application registration start x y (use_same s.application (IsCloseMoment s.application.activity act (book_of s.application x)) x y card) is
close-used s registration start act x y fits is (inr done) = inl (closed_session s act x y fits done)
