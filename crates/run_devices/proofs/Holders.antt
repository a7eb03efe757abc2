-- What no call writes of a card stays as it is in each note, keep, closing and insertion, and the places in all but the note of one.
use Rattle.std.proofs.Common.{◌≡◌, ◌⊎◌, inl, inr, ⊎_elim, ℕ, ◌+◌, ◌<◌, ◌≤◌, List, length, sym, ◌∙◌, ap, subst, arith}
use Rattle.tach_media.proofs.card_layout.Images.{part_after, part_before, put_outside}
use Rattle.device_calls.specs.activity_codec.declared.values.Activity.{Activity}
use Rattle.device_calls.specs.activity_codec.declared.values.Activity.TheVariants.{Rest}
use Rattle.device_calls.specs.activity_codec.declared.entries.Entry.{Entry}
use Rattle.device_calls.specs.tacho_types.declared.texts.Registration.{Registration}
use Rattle.device_calls.specs.tacho_types.Numbers.{time_bytes}
use Rattle.tach_media.specs.card_layout.declared.files.Application.{Application}
use Rattle.tach_media.specs.card_layout.Files.{files_of, place_of, size_of}
use Rattle.tach_media.specs.Medium.{SameOutside, bytes_at}
use Rattle.device_calls.specs.card_files.declared.card_event.CardEvent.{CardEvent}
use Rattle.device_calls.specs.card_files.Noting.{IsNotingEvent, IsEventNoted}
use Rattle.device_calls.specs.card_files.Rings.{event_ring}
use Rattle.device_calls.proofs.card_files.Sets.{set_inside}
use Rattle.device_calls.specs.card_model.Days.{Day}
use Rattle.device_calls.specs.gated_ring.Ring.{place_of as entry_place, size_of as ring_size}
use Rattle.device_calls.proofs.gated_ring.Places.{place_high}
use Rattle.device_calls.specs.card_image.Fields.{file, day_string, place_ring}
use Rattle.device_calls.specs.card_image.Beside.{HaveSame}
use Rattle.device_calls.specs.card_session.Cards.{IsCard, IsCardClosing, days_and_vehicles}
use Rattle.device_calls.specs.card_session.Vehicles.{Vehicles}
use Rattle.device_calls.specs.card_session.Books.{closed}
use Rattle.device_calls.specs.card_session.Sessions.{Session, book_of}
use Rattle.device_calls.specs.card_session.Moments.{IsBook, IsCloseMoment}
use Rattle.device_calls.specs.card_session.Inserting.{repaired, IsRepairMoment, During, IsStill, IsRepaired, IsRepairing, IsNoted, IsNoting, IsShut, IsShutting, IsEnded, IsEnding, IsOpening, IsCardInserting, timed, registered}
use Rattle.device_calls.specs.CardNotes.{IsNote}
use Rattle.run_devices.specs.Strung.{HasSameRest}

-- the same file
abbrev pub HaveSameFile : Application → (fid : ℕ) → List ℕ → List ℕ → Type 0
HaveSameFile app fid = HaveSame (place_of app (file fid)) (size_of app (file fid))

-- the file Identification, and all that no call writes
pub record HaveSameRest (app : Application) (x c : List ℕ) : Type 0 where
  pub identification : HaveSameFile app 0x0520 x c
  pub rest : HasSameRest app x c

-- some bytes lie beside the events, beside the days and the vehicle entries, and beside the current use
record IsApart (app : Application) (place size : ℕ) : Type 0 where
  pub events : (place_of app (file 0x0502) + size_of app (file 0x0502) ≤ place) ⊎ (place + size ≤ place_of app (file 0x0502))
  pub string : ((day_string app).base + days_and_vehicles app ≤ place) ⊎ (place + size ≤ (day_string app).base)
  pub current : (place_of app (file 0x0507) + 19 ≤ place) ⊎ (place + size ≤ place_of app (file 0x0507))

-- and beside the places
record IsUntouched (app : Application) (place size : ℕ) : Type 0 where
  pub apart : IsApart app place size
  pub places : ((place_ring app).base + ring_size (place_ring app) ≤ place) ⊎ (place + size ≤ (place_ring app).base)

module _ (app : Application) where
  -- so do these
  front-untouched : IsUntouched app 0 (place_of app (file 0x0502))
  unfolding files_of
  front-untouched = record { apart = record { events = inr (omega arith); string = inr (omega arith); current = inr (omega arith) }; places = inr (omega arith) }

  faults-untouched : IsUntouched app (place_of app (file 0x0503)) (size_of app (file 0x0503))
  unfolding files_of
  faults-untouched = record { apart = record { events = inl (omega arith); string = inr (omega arith); current = inr (omega arith) }; places = inr (omega arith) }

  behind-untouched : (n : ℕ) → IsUntouched app (place_of app (file 0x0508)) n
  unfolding files_of
  behind-untouched n = record { apart = record { events = inl (omega arith); string = inl (omega arith); current = inl (omega arith) }; places = inl (omega arith) }

  identification-untouched : IsUntouched app (place_of app (file 0x0520)) (size_of app (file 0x0520))
  unfolding files_of
  identification-untouched = record { apart = record { events = inl (omega arith); string = inl (omega arith); current = inl (omega arith) }; places = inl (omega arith) }

  places-apart : IsApart app (place_of app (file 0x0506)) (size_of app (file 0x0506))
  unfolding files_of
  places-apart = record { events = inl (omega arith); string = inl (omega arith); current = inr (omega arith) }

-- BYTES THAT LIE BESIDE
module _ (app : Application) (place size : ℕ) (apart : IsApart app place size) where
  abbrev Same : List ℕ → List ℕ → Type 0
  Same = HaveSame place size

  -- a write before it or behind it
  beside : (from len : ℕ) (x c : List ℕ) → (from + len ≤ place) ⊎ (place + size ≤ from) → SameOutside from len x c → Same x c
  beside from len x c (inl low) outside = part_after from len place size x c outside low
  beside from len x c (inr high) outside = part_before from len place size x c outside high

  same-file : (x c : List ℕ) → c ≡ x → Same x c
  same-file x c is = ap (λ (l : List ℕ). bytes_at l place size) is

  event-beside : (kind i : ℕ) (x c : List ℕ) → i < (event_ring app kind).count → SameOutside (entry_place (event_ring app kind) i) (event_ring app kind).width x c → Same x c
  event-beside kind i x c below outside = ⊎_elim
      (λ behind. beside (entry_place (event_ring app kind) i) (event_ring app kind).width x c
      (inl (omega (arith, place_high (event_ring app kind) i below, set_inside app kind, behind))) outside)
      (λ before. beside (entry_place (event_ring app kind) i) (event_ring app kind).width x c (inr (omega (arith, before))) outside)
      apart.events

  noting-file : (e : CardEvent) (x c : List ℕ) → IsNotingEvent app e x c → Same x c
  noting-file e x c noting = ⊎_elim
      (λ same. same-file x c same)
      (λ changed. ⊎_elim (λ absent. event-beside e.kind noting.place x c noting.takes.below absent.outside) (λ replaced. event-beside e.kind noting.place x c noting.takes.below replaced.outside) changed)
      noting.entry

  noted-file : (e : CardEvent) (x c : List ℕ) → IsEventNoted app e x c → Same x c
  noted-file e x c noted = event-beside e.kind noted.place x c noted.takes.below noted.entry.outside

  -- THE DAYS and the vehicle entries leave it,
  card-file : (P : List Day → Vehicles → Type 0) (x c : List ℕ) → IsCard app P x c → Same x c
  card-file P x c is = ⊎_elim
      (λ behind. beside (day_string app).base (days_and_vehicles app) x c (inl behind) is.outside)
      (λ before. beside (day_string app).base (days_and_vehicles app) x c (inr before) is.outside)
      apart.string

  -- ---- and an insertion

  -- the length is the same too
  abbrev Stays : List ℕ → List ℕ → Type 0
  Stays x c = (length c ≡ length x) × Same x c

  abbrev Fits : List ℕ → Type 0
  Fits x = place_of app (file 0x0507) + 19 ≤ length x

  abbrev Step : (List ℕ → List ℕ → Type 0) → Type 0
  Step S = (x c : List ℕ) → Fits x → S x c → Stays x c

  use-stays : (offset len : ℕ) (x c : List ℕ) → offset + len ≤ 19 → SameOutside (place_of app (file 0x0507) + offset) len x c → Stays x c
  use-stays offset len x c few outside = (
    outside.same_length,
    ⊎_elim
        (λ behind. beside (place_of app (file 0x0507) + offset) len x c (inl (omega (arith, few, behind))) outside)
        (λ before. beside (place_of app (file 0x0507) + offset) len x c (inr (omega (arith, before))) outside)
        apart.current,
  )

  same-stays : (x c : List ℕ) → c ≡ x → Stays x c
  same-stays x c is = (ap (λ (l : List ℕ). length l) is, same-file x c is)

  then-stays : (x y c : List ℕ) → Stays x y → Stays y c → Stays x c
  then-stays x y c first next = (next.0 ∙ first.0, next.1 ∙ first.1)

  card-stays : (P : List ℕ → List Day → Vehicles → Type 0) → Step (λ x c. IsCard app (P x) x c)
  card-stays P x c fits is = (is.outside.same_length, card-file (P x) x c is)

  noted-stays : (now : ℕ) → Step (IsNoted app now)
  noted-stays now x c fits (inl held) = same-stays x c held.1
  noted-stays now x c fits (inr noted) = (noted.1.entry.outside.same_length, noted-file _ x c noted.1)

  noting-stays : (now : ℕ) → Step (IsNoting app now)
  noting-stays now x c fits noting =
      (⊎_elim (λ same. ap (λ (l : List ℕ). length l) same) (λ changed. ⊎_elim (λ absent. absent.outside.same_length) (λ replaced. replaced.outside.same_length) changed) noting.1.entry, noting-file _ x c noting.1)

  timed-stays : (seconds : ℕ) (x : List ℕ) → Fits x → Stays x (timed app seconds x)
  timed-stays seconds x fits =
      use-stays 0 (length (time_bytes (record { 0 = seconds }))) x (timed app seconds x) (omega arith)
      (let at : place_of app (file 0x0507) ≡ place_of app (file 0x0507) + 0 = omega arith in
      subst (λ (n : ℕ). SameOutside n (length (time_bytes (record { 0 = seconds }))) x (timed app seconds x)) at (put_outside (place_of app (file 0x0507)) (time_bytes (record { 0 = seconds })) x (omega (arith, fits))))

  ended-stays : Step (IsEnded app)
  ended-stays x c fits is = subst (λ (l : List ℕ). Stays x l) (sym is) (timed-stays 0 x fits)

  ending-stays : Step (IsEnding app)
  ending-stays x c fits (inl same) = same-stays x c same
  ending-stays x c fits (inr ended) = ended-stays x c fits ended

  opening-stays : (registration : Registration) (now : ℕ) → length registration.0 ≡ 15 → Step (IsOpening app registration now)
  opening-stays registration now long x c fits is = ⊎_elim
      (λ partly. use-stays 4 (length registration.0) x c (omega (arith, long)) partly.outside)
      (λ whole. ⊎_elim (λ named. subst (λ (l : List ℕ). Stays x l) (sym named) first)
      (λ opened. subst (λ (l : List ℕ). Stays x l) (sym opened) (then-stays x (registered app registration x) (timed app now (registered app registration x)) first (timed-stays now (registered app registration x) (omega (arith, fits, first.0))))) whole) is
    where
      first : Stays x (registered app registration x)
      first = use-stays 4 (length registration.0) x (registered app registration x) (omega (arith, long)) (put_outside (place_of app (file 0x0507) + 4) registration.0 x (omega (arith, fits, long)))

  during-stays : (R S R' : List ℕ → List ℕ → Type 0) → Step R → Step S → Step R' → Step (During R S R')
  during-stays R S R' before done behind x c fits (inl early) = before x c fits early
  during-stays R S R' before done behind x c fits (inr late) =
      let first = done x late.0 fits late.1 in
      then-stays x late.0 c first (behind late.0 c (omega (arith, fits, first.0)) late.2)

  module _ (registration : Registration) (odometer now : ℕ) (owed : List Entry) (long : length registration.0 ≡ 15) where
    still : Step (IsStill app)
    still = card-stays (λ x. IsBook (book_of app x))

    shut : Step (IsShut app)
    shut = card-stays (λ x. IsBook (closed app.activity Rest (book_of app x)))

    shutting : Step (IsShutting app)
    shutting = card-stays (λ x. IsCloseMoment app.activity Rest (book_of app x))

    repaired-stays : Step (IsRepaired app registration odometer owed)
    repaired-stays = card-stays (λ x. IsBook (repaired app.activity registration odometer owed (book_of app x)))

    repairing-stays : Step (IsRepairing app registration odometer owed)
    repairing-stays = card-stays (λ x. IsRepairMoment app.activity registration odometer owed (book_of app x))

    inserting-file : (x c : List ℕ) → Fits x → IsCardInserting app registration odometer owed now x c → Same x c
    inserting-file x c fits is = ⊎_elim
        (λ shut_one. (during-stays (IsStill app) (IsStill app) _ still still (during-stays (IsShutting app) (IsShut app) _ shutting shut (opening-stays registration now long)) x c fits shut_one.1).1)
        (λ open_one. (during-stays (IsStill app) (IsStill app) _ still still
        (during-stays (IsRepairing app registration odometer owed) (IsRepaired app registration odometer owed) _ repairing-stays repaired-stays
        (during-stays (IsNoting app now) (IsNoted app now) _ (noting-stays now) (noted-stays now)
        (during-stays (IsShutting app) (IsShut app) _ shutting shut (during-stays (IsEnding app) (IsEnded app) _ ending-stays ended-stays (opening-stays registration now long))))) x c fits open_one.1).1)
        is

-- A CLOSING, too
closing-file : (place size : ℕ) (s : Session) → IsApart s.application place size → (act : Activity) (x y : List ℕ) → place_of s.application (file 0x0507) + 19 ≤ length x → IsCardClosing s act x y → HaveSame place size x y
closing-file place size s apart act x y fits (inl card) = card-file s.application place size apart (IsCloseMoment s.application.activity act (book_of s.application x)) x y card
closing-file place size s apart act x y fits (inr done) =
    let first = card-file s.application place size apart (IsBook (closed s.application.activity act (book_of s.application x))) x done.before done.card in
    (ended-stays s.application place size apart done.before y (omega (arith, fits, done.card.outside.same_length)) done.session).1 ∙ first

-- ---- ALL THAT NO CALL WRITES
module _ (app : Application) (x c : List ℕ) where
  all-same : ((place size : ℕ) → IsUntouched app place size → HaveSame place size x c) → HaveSameRest app x c
  all-same one = record {
    identification = one (place_of app (file 0x0520)) (size_of app (file 0x0520)) (identification-untouched app);
    rest = record {
      front = one 0 (place_of app (file 0x0502)) (front-untouched app);
      faults = one (place_of app (file 0x0503)) (size_of app (file 0x0503)) (faults-untouched app);
      behind = λ n. one (place_of app (file 0x0508)) n (behind-untouched app n);
    };
  }

  pub note-rest : IsNote app x c → HaveSameRest app x c
  note-rest (inl noting) = all-same (λ place size u. noting-file app place size u.apart noting.0 x c noting.1)
  note-rest (inr noting) = all-same (λ place size u. ⊎_elim
      (λ behind. beside app place size u.apart (place_ring app).base (ring_size (place_ring app)) x c (inl behind) noting.1.outside)
      (λ before. beside app place size u.apart (place_ring app).base (ring_size (place_ring app)) x c (inr before) noting.1.outside)
      u.places)

  pub card-rest : (P : List Day → Vehicles → Type 0) → IsCard app P x c → HaveSameRest app x c
  card-rest P is = all-same (λ place size u. card-file app place size u.apart P x c is)

  pub inserting-rest : (registration : Registration) (odometer now : ℕ) (owed : List Entry) → length registration.0 ≡ 15 → place_of app (file 0x0507) + 19 ≤ length x → IsCardInserting app registration odometer owed now x c → HaveSameRest app x c
  inserting-rest registration odometer now owed long fits is = all-same (λ place size u. inserting-file app place size u.apart registration odometer now owed long x c fits is)

  -- ---- and the places, but for the note of a place
  pub event-places : (e : CardEvent) → IsNotingEvent app e x c → HaveSameFile app 0x0506 x c
  event-places e noting = noting-file app (place_of app (file 0x0506)) (size_of app (file 0x0506)) (places-apart app) e x c noting

  pub noted-places : (e : CardEvent) → IsEventNoted app e x c → HaveSameFile app 0x0506 x c
  noted-places e noted = noted-file app (place_of app (file 0x0506)) (size_of app (file 0x0506)) (places-apart app) e x c noted

  pub card-places : (P : List Day → Vehicles → Type 0) → IsCard app P x c → HaveSameFile app 0x0506 x c
  card-places P is = card-file app (place_of app (file 0x0506)) (size_of app (file 0x0506)) (places-apart app) P x c is

pub closing-rest : (s : Session) (act : Activity) (x y : List ℕ) → place_of s.application (file 0x0507) + 19 ≤ length x → IsCardClosing s act x y → HaveSameRest s.application x y
closing-rest s act x y fits closing = all-same s.application x y (λ place size u. closing-file place size s u.apart act x y fits closing)

pub closing-places : (s : Session) (act : Activity) (x y : List ℕ) → place_of s.application (file 0x0507) + 19 ≤ length x → IsCardClosing s act x y → HaveSameFile s.application 0x0506 x y
closing-places s act x y fits closing = closing-file (place_of s.application (file 0x0506)) (size_of s.application (file 0x0506)) s (places-apart s.application) act x y fits closing
