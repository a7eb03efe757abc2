-- What a moment of a keep leaves alone on the card, and where its end mark stands.
use Rattle.std.proofs.Common.{◌≡◌, inl, inr, ⊎_elim, ℕ, ◌+◌, ◌/◌, ◌≤◌, List, Option, Some, None, option_map, refl, sym, ◌∙◌, ap, arith}
use Rattle.std.specs.Prelude.{◌⊎◌}
use Rattle.activity_codec.specs.declared.entries.Entry.{Entry}
use Rattle.card_layout.proofs.Images.{part_before, part_after}
use Rattle.tacho_types.specs.declared.texts.Registration.{Registration}
use Rattle.tach_media.specs.Medium.{bytes_at}
use Rattle.card_layout.specs.declared.files.Application.{Application}
use Rattle.card_layout.specs.Files.{files_of, place_of, size_of}
use Rattle.card_files.specs.CurrentUses.{current_use_of}
use Rattle.card_days.specs.card_model.Days.{Day}
use Rattle.card_validity.specs.card_image.Fields.{file, file_bytes, day_string, end_mark, current_use, session_time, card_number, last_use_of}
use Rattle.card_validity.specs.card_image.Beside.{HaveSameSizes, HaveSameIdentification}
use Rattle.card_validity.proofs.card_image.Beside.{number_same}
use Rattle.card_files.specs.declared.vehicle.Vehicle.{Vehicle}
use Rattle.card_session.specs.Moments.{IsBeforeUse}
use Rattle.card_session.specs.Vehicles.{Vehicles, last_use_in}
use Rattle.card_session.specs.Books.{mark_of, measured_to, measured}
use Rattle.card_session.specs.Sessions.{Session, book_of}
use Rattle.card_session.specs.Cards.{IsCard, IsCardKeeping, days_and_vehicles}
use Rattle.card_session.proofs.Preparing.{used_at}

module _ (app : Application) (P : List Day → Vehicles → Type 0) (x c : List ℕ) (is : IsCard app P x c) where
  -- the files before the days, as the sizes and the events, and those behind the vehicle entries, as the places and the current use
  pub before_days : (place len : ℕ) → place + len ≤ (day_string app).base → bytes_at c place len ≡ bytes_at x place len
  before_days place len low = part_before (day_string app).base (days_and_vehicles app) place len x c is.outside low

  pub behind_vehicles : (place len : ℕ) → (day_string app).base + days_and_vehicles app ≤ place → bytes_at c place len ≡ bytes_at x place len
  behind_vehicles place len high = part_after (day_string app).base (days_and_vehicles app) place len x c is.outside high

  -- the events
  pub events_same : file_bytes app 0x0502 c ≡ file_bytes app 0x0502 x
  unfolding files_of
  events_same = before_days (place_of app (file 0x0502)) (size_of app (file 0x0502)) (omega arith)

  -- the current use, and so the session time
  pub current_same : file_bytes app 0x0507 c ≡ file_bytes app 0x0507 x
  unfolding files_of
  current_same = behind_vehicles (place_of app (file 0x0507)) (size_of app (file 0x0507)) (omega arith)

  pub session_same : session_time app c ≡ session_time app x
  unfolding current_use
  session_same = ap (λ (l : List ℕ). (current_use_of l).session.0) current_same

  -- the number
  pub sizes_still : HaveSameSizes app x c
  unfolding files_of
  sizes_still = before_days (place_of app (file 0x0501)) (size_of app (file 0x0501)) (omega arith)

  identification_still : HaveSameIdentification app x c
  unfolding files_of
  identification_still = behind_vehicles (place_of app (file 0x0520)) 17 (omega arith)

  pub number_still : card_number app c ≡ card_number app x
  number_still = number_same app x c sizes_still identification_still

-- the end mark is that of the book
pub mark_told : (app : Application) (x : List ℕ) → end_mark app x ≡ mark_of (book_of app x)
unfolding book_of
mark_told app x = refl

pub measured_mark : (odometer : ℕ) (v : Vehicles) → last_use_in (measured_to odometer v) ≡ last_use_in v
measured_mark odometer v = by v.newest
  where
    by : (o : Option Vehicle) → last_use_of (option_map (measured odometer) o) ≡ last_use_of o
    by None = refl
    by (Some u) = refl

-- where an entry's use is still to be written
pub use_before : (registration : Registration) (odometer minute : ℕ) (old now : Vehicles) → IsBeforeUse registration odometer minute old now → last_use_in now ≡ last_use_in old
use_before registration odometer minute old now (inl same) = ap last_use_in same
use_before registration odometer minute old now (inr (inl set)) = ap last_use_in set.1 ∙ measured_mark odometer old
use_before registration odometer minute old now (inr (inr room)) = ap last_use_in room.1

-- The end mark is the old one, or it is the entry's minute.
pub keeping_mark : (s : Session) (e : Entry) (odometer : ℕ) (x c : List ℕ) → IsCardKeeping s e odometer x c → (end_mark s.application c ≡ end_mark s.application x) ⊎ (end_mark s.application c ≡ e.minute)
keeping_mark s e odometer x c keeping =
    ⊎_elim
    (λ old. inl (mark_told s.application c ∙ ap (λ (o : Vehicles). last_use_in o / 60) old.0 ∙ sym (mark_told s.application x)))
    (λ new. ⊎_elim
    (λ before. inl (mark_told s.application c ∙ ap (λ (n : ℕ). n / 60) (use_before s.registration odometer e.minute (book_of s.application x).vehicles (book_of s.application c).vehicles before) ∙ sym (mark_told s.application x)))
    (λ after. inr (mark_told s.application c ∙ ap (λ (o : Vehicles). last_use_in o / 60) after ∙ used_at s.registration odometer e.minute (book_of s.application x).vehicles)) new.1)
    keeping.card.told
