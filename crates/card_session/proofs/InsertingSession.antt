-- The session time at each moment of an insertion.
use Rattle.std.proofs.Common.{◌≡◌, inl, inr, ⊎_elim, ℕ, ◌+◌, ◌<◌, ◌≤◌, ◌^◌, List, length, ◌∙◌, ap, arith}
use Rattle.std.specs.Prelude.{◌⊎◌}
use Rattle.card_layout.specs.Images.{big_number}
use Rattle.card_layout.proofs.Images.{part_before, part_put, put_outside}
use Rattle.card_layout.proofs.Numbers.{big_number-big_bytes}
use Rattle.activity_codec.specs.declared.values.Activity.TheVariants.{Rest}
use Rattle.activity_codec.specs.declared.entries.Entry.{Entry}
use Rattle.tacho_types.specs.declared.texts.Registration.{Registration}
use Rattle.tacho_types.specs.Numbers.{time_bytes}
use Rattle.card_layout.specs.declared.files.Application.{Application}
use Rattle.card_layout.specs.Files.{place_of, image_size_of}
use Rattle.tach_media.specs.Medium.{SameOutside}
use Rattle.card_validity.specs.card_image.Fields.{file, session_time}
use Rattle.card_validity.proofs.card_image.Beside.{session_same as session_beside}
use Rattle.card_session.specs.Books.{closed}
use Rattle.card_session.specs.Sessions.{book_of}
use Rattle.card_session.specs.Moments.{IsBook, IsCloseMoment}
use Rattle.card_session.specs.Inserting.{repaired, IsRepairMoment, IsStill, IsRepaired, IsNoted, IsShut, IsOpened, IsOpening, InsertsClosed, InsertingClosed, InsertsOpen, InsertingOpen, timed, registered}
use Rattle.card_session.proofs.Marks.{session_same}
use Rattle.card_session.proofs.Stopping.{session_told}
use Rattle.card_session.proofs.InsertingCards.{noted_same, noting_same}
use Rattle.card_session.proofs.InsertingUse.{use_inside}
use Rattle.card_session.proofs.InsertingAgain.{noted_keeps}

module _ (app : Application) where
  timed_session : (seconds : ℕ) (x : List ℕ) → seconds < 2 ^ 32 → place_of app (file 0x0507) + 19 ≤ length x → session_time app (timed app seconds x) ≡ seconds
  timed_session seconds x few fits =
      session_told app (timed app seconds x)
      ∙ ap (big_number 4) (part_put (place_of app (file 0x0507)) (time_bytes (record { 0 = seconds })) x (omega (arith, fits)))
      ∙ big_number-big_bytes 4 seconds few

  -- a write behind it
  named_session : (n : ℕ) (x c : List ℕ) → SameOutside (place_of app (file 0x0507) + 4) n x c → session_time app c ≡ session_time app x
  named_session n x c outside = session_beside app x c (part_before (place_of app (file 0x0507) + 4) n (place_of app (file 0x0507)) 4 x c outside (omega arith))

  module _ (registration : Registration) (now : ℕ) (long : length registration.0 ≡ 15) (few : now < 2 ^ 32) (x c : List ℕ) (fits : place_of app (file 0x0507) + 19 ≤ length x) where
    outside : SameOutside (place_of app (file 0x0507) + 4) (length registration.0) x (registered app registration x)
    outside = put_outside (place_of app (file 0x0507) + 4) registration.0 x (omega (arith, fits, long))

    opened_session : IsOpened app registration now x c → session_time app c ≡ now
    opened_session is = ap (λ (l : List ℕ). session_time app l) is ∙ timed_session now (registered app registration x) few (omega (arith, fits, outside.same_length))

    opening_session : IsOpening app registration now x c → (session_time app c ≡ session_time app x) ⊎ (session_time app c ≡ now)
    opening_session is = ⊎_elim
        (λ partly. inl (named_session (length registration.0) x c partly.outside))
        (λ whole. ⊎_elim
        (λ named. inl (ap (λ (l : List ℕ). session_time app l) named ∙ named_session (length registration.0) x (registered app registration x) outside))
        (λ opened. inr (opened_session opened)) whole) is

module _ (app : Application) (x : List ℕ) (fits : image_size_of app ≤ length x) (registration : Registration) (long : length registration.0 ≡ 15) (now : ℕ) (few : now < 2 ^ 32) (odometer : ℕ) (owed : List Entry) where
  abbrev Kept : List ℕ → Type 0
  Kept y = (session_time app y ≡ session_time app x) × (length y ≡ length x)

  -- the steps before the current use leave it
  still_kept : (y : List ℕ) → IsStill app x y → Kept y
  still_kept y card = (session_same app (IsBook (book_of app x)) x y card, card.outside.same_length)

  shut_kept : (y z : List ℕ) → Kept y → IsShut app y z → Kept z
  shut_kept y z kept card = (session_same app (IsBook (closed app.activity Rest (book_of app y))) y z card ∙ kept.0, card.outside.same_length ∙ kept.1)

  repaired_kept : (y z : List ℕ) → Kept y → IsRepaired app registration odometer owed y z → Kept z
  repaired_kept y z kept card = (session_same app (IsBook (repaired app.activity registration odometer owed (book_of app y))) y z card ∙ kept.0, card.outside.same_length ∙ kept.1)

  noted_kept : (y z : List ℕ) → Kept y → IsNoted app now y z → Kept z
  noted_kept y z kept noted = (session_beside app y z (noted_same app now y z noted).2 ∙ kept.0, (noted_keeps app now y z (omega (arith, use_inside app, fits, kept.1)) noted).1 ∙ kept.1)

  room : (y : List ℕ) → Kept y → place_of app (file 0x0507) + 19 ≤ length y
  room y kept = omega (arith, use_inside app, fits, kept.1)

  abbrev Told : List ℕ → Type 0
  Told y = (session_time app y ≡ session_time app x) ⊎ ((session_time app y ≡ 0) ⊎ (session_time app y ≡ now))

  -- the session that was left open is ended
  ended_told : (y z : List ℕ) → Kept y → z ≡ timed app 0 y → session_time app z ≡ 0
  ended_told y z kept is = ap (λ (l : List ℕ). session_time app l) is ∙ timed_session app 0 y (omega arith) (room y kept)

  ended_room : (y z : List ℕ) → Kept y → z ≡ timed app 0 y → place_of app (file 0x0507) + 19 ≤ length z
  ended_room y z kept is =
      let same = (put_outside (place_of app (file 0x0507)) (time_bytes (record { 0 = 0 })) y (omega (arith, room y kept))).same_length in
      omega (arith, room y kept, same, ap (λ (l : List ℕ). length l) is)

  pub open_session : (y : List ℕ) → InsertingOpen app registration odometer owed now x y → Told y
  open_session y (inl still) = inl (still_kept y still).0
  open_session y (inr (x1, still, inl repairing)) = inl (session_same app (IsRepairMoment app.activity registration odometer owed (book_of app x1)) x1 y repairing ∙ (still_kept x1 still).0)
  open_session y (inr (x1, still, inr (x2, mended, inl noting))) = inl (session_beside app x2 y (noting_same app now x2 y noting).2 ∙ (repaired_kept x1 x2 (still_kept x1 still) mended).0)
  open_session y (inr (x1, still, inr (x2, mended, inr (x3, noted, inl shutting)))) =
      inl (session_same app (IsCloseMoment app.activity Rest (book_of app x3)) x3 y shutting ∙ (noted_kept x2 x3 (repaired_kept x1 x2 (still_kept x1 still) mended) noted).0)
  open_session y (inr (x1, still, inr (x2, mended, inr (x3, noted, inr (x4, shut, inl ending))))) =
      let kept = shut_kept x3 x4 (noted_kept x2 x3 (repaired_kept x1 x2 (still_kept x1 still) mended) noted) shut in
      ⊎_elim (λ same. inl (ap (λ (l : List ℕ). session_time app l) same ∙ kept.0)) (λ ended. inr (inl (ended_told x4 y kept ended))) ending
  open_session y (inr (x1, still, inr (x2, mended, inr (x3, noted, inr (x4, shut, inr (x5, ended, opening)))))) =
      let kept = shut_kept x3 x4 (noted_kept x2 x3 (repaired_kept x1 x2 (still_kept x1 still) mended) noted) shut in
      ⊎_elim (λ same. inr (inl (same ∙ ended_told x4 x5 kept ended))) (λ opened. inr (inr opened)) (opening_session app registration now long few x5 y (ended_room x4 x5 kept ended) opening)

  pub open_begun : (y : List ℕ) → InsertsOpen app registration odometer owed now x y → session_time app y ≡ now
  open_begun y (x1, still, (x2, mended, (x3, noted, (x4, shut, (x5, ended, opened))))) =
      let kept = shut_kept x3 x4 (noted_kept x2 x3 (repaired_kept x1 x2 (still_kept x1 still) mended) noted) shut in
      opened_session app registration now long few x5 y (ended_room x4 x5 kept ended) opened

  pub closed_session : (y : List ℕ) → InsertingClosed app registration now x y → Told y
  closed_session y (inl still) = inl (still_kept y still).0
  closed_session y (inr (x1, still, inl shutting)) = inl (session_same app (IsCloseMoment app.activity Rest (book_of app x1)) x1 y shutting ∙ (still_kept x1 still).0)
  closed_session y (inr (x1, still, inr (x2, shut, opening))) =
      let kept = shut_kept x1 x2 (still_kept x1 still) shut in
      ⊎_elim (λ same. inl (same ∙ kept.0)) (λ opened. inr (inr opened)) (opening_session app registration now long few x2 y (room x2 kept) opening)

  pub closed_begun : (y : List ℕ) → InsertsClosed app registration now x y → session_time app y ≡ now
  closed_begun y (x1, still, (x2, shut, opened)) = opened_session app registration now long few x2 y (room x2 (shut_kept x1 x2 (still_kept x1 still) shut)) opened
