-- A card that an insertion leaves at any moment tells the same sizes and the same number, so that it may be inserted again.
use Rattle.std.proofs.Common.{◌≡◌, inl, inr, ⊎_elim, ℕ, ◌+◌, ◌<◌, ◌≤◌, List, length, sym, ◌∙◌, ap, subst, arith}
use Rattle.card_layout.proofs.Images.{part_before, part_after, put_outside}
use Rattle.activity_codec.specs.declared.values.Activity.TheVariants.{Rest}
use Rattle.activity_codec.specs.declared.entries.Entry.{Entry}
use Rattle.tacho_types.specs.declared.texts.Registration.{Registration}
use Rattle.tacho_types.specs.Numbers.{time_bytes}
use Rattle.card_layout.specs.declared.files.Application.{Application}
use Rattle.card_layout.specs.Files.{files_of, place_of, size_of}
use Rattle.tach_media.specs.Medium.{SameOutside, bytes_at}
use Rattle.card_files.specs.Rings.{event_ring}
use Rattle.card_days.specs.card_model.Days.{Day}
use Rattle.card_files.proofs.Sets.{set_inside}
use Rattle.gated_ring.specs.Ring.{place_of as entry_place}
use Rattle.gated_ring.proofs.Places.{place_high}
use Rattle.card_validity.specs.card_image.Fields.{file, day_string, place_ring, card_number}
use Rattle.card_validity.specs.card_image.Beside.{HaveSameSizes, HaveSameIdentification, HaveSamePlacePointer}
use Rattle.card_validity.proofs.card_image.Beside.{number_same}
use Rattle.card_session.specs.Cards.{IsCard, days_and_vehicles}
use Rattle.card_session.specs.Vehicles.{Vehicles}
use Rattle.card_session.specs.Books.{closed}
use Rattle.card_session.specs.Sessions.{book_of}
use Rattle.card_session.specs.Moments.{IsBook, IsCloseMoment}
use Rattle.card_session.specs.Inserting.{repaired, IsRepairMoment, During, IsStill, IsRepaired, IsRepairing, IsNoted, IsNoting, IsShut, IsShutting, IsEnded, IsEnding, IsOpening, IsCardInserting, timed, registered}

module _ (app : Application) where
  -- the card has the same length, and tells the same sizes, the same number and the same pointer of places
  abbrev pub Keeps : List ℕ → List ℕ → Type 0
  Keeps x c = HaveSameSizes app x c × (length c ≡ length x) × HaveSameIdentification app x c × HaveSamePlacePointer app x c

  abbrev pub Fits : List ℕ → Type 0
  Fits x = place_of app (file 0x0507) + 19 ≤ length x

  abbrev Step : (List ℕ → List ℕ → Type 0) → Type 0
  Step S = (x c : List ℕ) → Fits x → S x c → Keeps x c

  before_events : place_of app (file 0x0501) + size_of app (file 0x0501) ≤ place_of app (file 0x0502)
  unfolding files_of
  before_events = omega arith

  before_string : place_of app (file 0x0501) + size_of app (file 0x0501) ≤ (day_string app).base
  unfolding files_of
  before_string = omega arith

  before_use : place_of app (file 0x0501) + size_of app (file 0x0501) ≤ place_of app (file 0x0507)
  unfolding files_of
  before_use = omega arith

  string_before : (day_string app).base + days_and_vehicles app ≤ place_of app (file 0x0520)
  unfolding files_of
  string_before = omega arith

  use_before : place_of app (file 0x0507) + 19 ≤ place_of app (file 0x0520)
  unfolding files_of
  use_before = omega arith

  events_low : place_of app (file 0x0502) + size_of app (file 0x0502) ≤ place_of app (file 0x0520)
  unfolding files_of
  events_low = omega arith

  string_before_places : (day_string app).base + days_and_vehicles app ≤ (place_ring app).base
  unfolding files_of
  string_before_places = omega arith

  events_before_places : place_of app (file 0x0502) + size_of app (file 0x0502) ≤ (place_ring app).base
  unfolding files_of
  events_before_places = omega arith

  places_before_use : (place_ring app).base + (place_ring app).pointer_width ≤ place_of app (file 0x0507)
  unfolding files_of
  places_before_use = omega arith

  outside_keeps : (place len : ℕ) (x c : List ℕ) → place_of app (file 0x0501) + size_of app (file 0x0501) ≤ place → place + len ≤ place_of app (file 0x0520) → HaveSamePlacePointer app x c → SameOutside place len x c → Keeps x c
  outside_keeps place len x c low high places outside = (
    part_before place len (place_of app (file 0x0501)) (size_of app (file 0x0501)) x c outside low,
    outside.same_length,
    part_after place len (place_of app (file 0x0520)) 17 x c outside high,
    places,
  )

  -- a write before the places, and one of the current use
  before_keeps : (place len : ℕ) (x c : List ℕ) → place_of app (file 0x0501) + size_of app (file 0x0501) ≤ place → place + len ≤ (place_ring app).base → place + len ≤ place_of app (file 0x0520) → SameOutside place len x c → Keeps x c
  before_keeps place len x c low near high outside = outside_keeps place len x c low high (part_after place len (place_ring app).base (place_ring app).pointer_width x c outside near) outside

  use_keeps : (offset len : ℕ) (x c : List ℕ) → offset + len ≤ 19 → SameOutside (place_of app (file 0x0507) + offset) len x c → Keeps x c
  use_keeps offset len x c few outside =
      outside_keeps (place_of app (file 0x0507) + offset) len x c (omega (arith, before_use)) (omega (arith, use_before, few))
      (part_before (place_of app (file 0x0507) + offset) len (place_ring app).base (place_ring app).pointer_width x c outside (omega (arith, places_before_use))) outside

  same_keeps : (x c : List ℕ) → c ≡ x → Keeps x c
  same_keeps x c is = (ap (λ (l : List ℕ). bytes_at l (place_of app (file 0x0501)) (size_of app (file 0x0501))) is, ap (λ (l : List ℕ). length l) is, ap (λ (l : List ℕ). bytes_at l (place_of app (file 0x0520)) 17) is, ap (λ (l : List ℕ). bytes_at l (place_ring app).base (place_ring app).pointer_width) is)

  then_keeps : (x y c : List ℕ) → Keeps x y → Keeps y c → Keeps x c
  then_keeps x y c first next = (next.0 ∙ first.0, next.1 ∙ first.1, next.2 ∙ first.2, next.3 ∙ first.3)

  card_keeps : (P : List ℕ → List Day → Vehicles → Type 0) → Step (λ x c. IsCard app (P x) x c)
  card_keeps P x c fits is = before_keeps (day_string app).base (days_and_vehicles app) x c before_string string_before_places string_before is.outside

  event_keeps : (now i : ℕ) (x c : List ℕ) → i < (event_ring app 6).count → SameOutside (entry_place (event_ring app 6) i) (event_ring app 6).width x c → Keeps x c
  event_keeps now i x c below outside =
      before_keeps (entry_place (event_ring app 6) i) (event_ring app 6).width x c (omega (arith, before_events)) (omega (arith, place_high (event_ring app 6) i below, set_inside app 6, events_before_places))
      (omega (arith, place_high (event_ring app 6) i below, set_inside app 6, events_low)) outside

  pub noted_keeps : (now : ℕ) → Step (IsNoted app now)
  noted_keeps now x c fits (inl held) = same_keeps x c held.1
  noted_keeps now x c fits (inr noted) = event_keeps now noted.1.place x c noted.1.takes.below noted.1.entry.outside

  noting_keeps : (now : ℕ) → Step (IsNoting app now)
  noting_keeps now x c fits noting =
      ⊎_elim (λ same. same_keeps x c same) (λ changed. ⊎_elim (λ absent. event_keeps now noting.1.place x c noting.1.takes.below absent.outside) (λ replaced. event_keeps now noting.1.place x c noting.1.takes.below replaced.outside) changed) noting.1.entry

  timed_keeps : (seconds : ℕ) (x : List ℕ) → Fits x → Keeps x (timed app seconds x)
  timed_keeps seconds x fits =
      use_keeps 0 (length (time_bytes (record { 0 = seconds }))) x (timed app seconds x) (omega arith)
      (let at : place_of app (file 0x0507) ≡ place_of app (file 0x0507) + 0 = omega arith in
      subst (λ (n : ℕ). SameOutside n (length (time_bytes (record { 0 = seconds }))) x (timed app seconds x)) at (put_outside (place_of app (file 0x0507)) (time_bytes (record { 0 = seconds })) x (omega (arith, fits))))

  pub ended_keeps : Step (IsEnded app)
  ended_keeps x c fits is = subst (λ (l : List ℕ). Keeps x l) (sym is) (timed_keeps 0 x fits)

  ending_keeps : Step (IsEnding app)
  ending_keeps x c fits (inl same) = same_keeps x c same
  ending_keeps x c fits (inr ended) = ended_keeps x c fits ended

  opening_keeps : (registration : Registration) (now : ℕ) → length registration.0 ≡ 15 → Step (IsOpening app registration now)
  opening_keeps registration now long x c fits is = ⊎_elim
      (λ partly. use_keeps 4 (length registration.0) x c (omega (arith, long)) partly.outside)
      (λ whole. ⊎_elim (λ named. subst (λ (l : List ℕ). Keeps x l) (sym named) first) (λ opened. subst (λ (l : List ℕ). Keeps x l) (sym opened) (then_keeps x (registered app registration x) (timed app now (registered app registration x)) first (timed_keeps now (registered app registration x) (omega (arith, fits, first.1))))) whole) is
    where
      first : Keeps x (registered app registration x)
      first = use_keeps 4 (length registration.0) x (registered app registration x) (omega (arith, long)) (put_outside (place_of app (file 0x0507) + 4) registration.0 x (omega (arith, fits, long)))

  during_keeps : (R S R' : List ℕ → List ℕ → Type 0) → Step R → Step S → Step R' → Step (During R S R')
  during_keeps R S R' before done behind x c fits (inl early) = before x c fits early
  during_keeps R S R' before done behind x c fits (inr late) =
      let first = done x late.0 fits late.1 in
      then_keeps x late.0 c first (behind late.0 c (omega (arith, fits, first.1)) late.2)

  module _ (registration : Registration) (odometer now : ℕ) (owed : List Entry) (long : length registration.0 ≡ 15) where
    still : Step (IsStill app)
    still = card_keeps (λ x. IsBook (book_of app x))

    shut : Step (IsShut app)
    shut = card_keeps (λ x. IsBook (closed app.activity Rest (book_of app x)))

    shutting : Step (IsShutting app)
    shutting = card_keeps (λ x. IsCloseMoment app.activity Rest (book_of app x))

    repaired_keeps : Step (IsRepaired app registration odometer owed)
    repaired_keeps = card_keeps (λ x. IsBook (repaired app.activity registration odometer owed (book_of app x)))

    repairing_keeps : Step (IsRepairing app registration odometer owed)
    repairing_keeps = card_keeps (λ x. IsRepairMoment app.activity registration odometer owed (book_of app x))

    -- AT EACH MOMENT it tells the same sizes
    pub inserting_keeps : (x c : List ℕ) → Fits x → IsCardInserting app registration odometer owed now x c → Keeps x c
    inserting_keeps x c fits is = ⊎_elim
        (λ closed. during_keeps (IsStill app) (IsStill app) _ still still (during_keeps (IsShutting app) (IsShut app) _ shutting shut (opening_keeps registration now long)) x c fits closed.1)
        (λ open_one. during_keeps (IsStill app) (IsStill app) _ still still
        (during_keeps (IsRepairing app registration odometer owed) (IsRepaired app registration odometer owed) _ repairing_keeps repaired_keeps
        (during_keeps (IsNoting app now) (IsNoted app now) _ (noting_keeps now) (noted_keeps now)
        (during_keeps (IsShutting app) (IsShut app) _ shutting shut (during_keeps (IsEnding app) (IsEnded app) _ ending_keeps ended_keeps (opening_keeps registration now long))))) x c fits open_one.1)
        is

    pub number_again : (x c : List ℕ) → Fits x → IsCardInserting app registration odometer owed now x c → card_number app c ≡ card_number app x
    number_again x c fits is = let same = inserting_keeps x c fits is in number_same app x c same.0 same.2
