-- A card is judged: the places of each card stay as they are, whatever becomes of it, and its vehicle entries are measured.
use Rattle.std.proofs.Common.{◌≡◌, ◌≢◌, ◌∙◌, ◌⊎◌, inl, inr, ⊎_elim, ℕ, ◌+◌, ◌<◌, ◌≤◌, ◌/◌, ◌^◌, Bool, true, false, cond, not, ◌&&◌, nat_lt, None, IfSome, List, [], ◌∷◌, ◌++◌, filter, length, take, drop, refl, sym, ap, subst, arith}
use Rattle.std.proofs.lemmas.List.{take-take, drop-take, take_at, length-take-le, length-append}
use Rattle.tach_media.proofs.card_layout.Images.{part_before}
use Rattle.activity_codec.specs.declared.values.Activity.TheVariants.{Rest}
use Rattle.activity_codec.specs.declared.entries.Entry.{Entry}
use Rattle.trace_model.specs.declared.Card.{Card}
use Rattle.trace_model.specs.declared.Card.TheVariants.{A, B}
use Rattle.trace_model.specs.Trace.{TraceSecond}
use Rattle.tach_media.specs.Medium.{State, bytes_at, put}
use Rattle.tach_media.proofs.Runs.{at_image}
use Rattle.tacho_types.specs.declared.texts.Registration.{Registration}
use Rattle.tacho_types.specs.Numbers.{time_bytes}
use Rattle.minute_rules.specs.Kept.{Kept}
use Rattle.tach_media.specs.card_layout.declared.files.Application.{Application}
use Rattle.tach_media.specs.card_layout.declared.files.TheConstants.{LARGEST_IMAGE}
use Rattle.tach_media.specs.card_layout.Application.{IsApplication}
use Rattle.tach_media.specs.card_layout.Files.{files_of, place_of, image_size_of}
use Rattle.tach_media.proofs.card_layout.Sizes.{largest_image}
use Rattle.unit_minutes.specs.gated_ring.Ring.{size_of as ring_size}
use Rattle.device_calls.specs.card_files.Rings.{file, place_ring}
use Rattle.device_calls.specs.card_files.declared.card_event.CardEvent.{CardEvent}
use Rattle.device_calls.specs.card_files.Noting.{IsEventNoted}
use Rattle.device_calls.specs.card_image.Fields.{session_time}
use Rattle.device_calls.specs.card_model.Days.{Day}
use Rattle.device_calls.specs.card_image.Own.{own_sizes, IsOwnValid}
use Rattle.device_calls.specs.card_session.Vehicles.{Vehicles}
use Rattle.device_calls.specs.card_session.Books.{closed}
use Rattle.device_calls.specs.card_session.Cards.{IsCard}
use Rattle.device_calls.specs.card_session.Sessions.{book_of}
use Rattle.device_calls.specs.card_session.Moments.{IsBook, IsCloseMoment}
use Rattle.device_calls.specs.card_session.Inserting.{repaired, IsRepairMoment, During, IsStill, IsRepaired, IsRepairing, IsNoted, IsNoting, IsShut, IsShutting, IsEnded, IsEnding, IsOpening, IsCardInserting, timed, registered}
use Rattle.device_calls.proofs.card_session.Ends.{inserted_moment}
use Rattle.device_calls.proofs.card_session.InsertingUse.{use_inside}
use Rattle.device_calls.proofs.card_session.InsertingAgain.{inserting_keeps}
use Rattle.device_calls.specs.Entering.{owed_on}
use Rattle.device_calls.specs.device_rule.Views.{other}
use Rattle.log_model.specs.declared.lines.Verdict.{Verdict}
use Rattle.log_model.specs.Log.{RunLog, In, found_in, is_accepting}
use Rattle.log_model.specs.Slots.{same_card}
use Rattle.log_model.specs.Course.{Visit}
use Rattle.device_calls.specs.note_model.Odometer.{SpanFrom}
use Rattle.device_calls.specs.safety_model.Recording.{card_image}
use Rattle.run_minutes.specs.run_promise.Found.{found_of}
use Rattle.run_minutes.specs.run_devices.Told.{arranged}
use Rattle.run_minutes.proofs.run_devices.Parts.{told-one}
use Rattle.unit_minutes.specs.unit_model.Image.{last_kept}
use Rattle.run_minutes.specs.run_devices.Measured.{Reading, reading_at, GoesMeasured}
use Rattle.run_minutes.proofs.run_devices.Holders.{event-places, noted-places, card-places}
use Rattle.run_minutes.proofs.run_devices.Measured.{goes-itself, goes-then, bytes-go, inserting-goes, owed-follows, owed-early, event-days, event-vehicles, noted-days, noted-vehicles}
use Rattle.run_minutes.specs.run_devices.Sessions.{SessionGoes, IsNoneOr}
use Rattle.run_minutes.proofs.run_devices.Sessions.{session-itself, session-then, session-more, inserting-session, inserted-session, event-session, noted-session}
use Rattle.run_outcome.specs.declared.outcome.Outcome.{Outcome}
use Rattle.run_minutes.specs.run_promise.Origin.{Origin}
use Rattle.run_acts.specs.run_note_record.OnCards.{has_call_failed_in, HasSamePlaces, LeavesPlaces, PlacesStay, IsReading, IsReadingOf, GoesByReadings, VehiclesGo, SessionsGo, CardsGo}
use Rattle.run_minutes.specs.declared.keeper.Keeper.{Keeper}
use Rattle.run_insertion.specs.declared.lines.Entering.{Entering}
use Rattle.run_insertion.specs.Entering.{Ending, Unfit, Ahead, Fell, Unasked, Unnoted, Seated, Lost, Way, Unread, Unsized, Judged, ending_of}
use Rattle.run_insertion.specs.Noted.{CardNote, PutIn, Shows, IsOnCard, IsComingOnCard, AreDone, AreBeingDone, AreOnCard, AreComingOnCard, card_notes_by, is_cut, moving_event, moving_on_card}
use Rattle.run_insertion.proofs.CardBrought.{IsSitting}
use Rattle.run_insertion.specs.Entered.{IsFoundIn}
use Rattle.run_acts.specs.run_record.Within.{RecordInSecond}
use Rattle.run_acts.specs.Entered.{values_with, MayJudge, HasGone, AreSound}
use Rattle.run_acts.specs.Recording.{IsOrigin, log_of}
use Rattle.run_acts.specs.RunCards.{sizes_in}
use Rattle.run_acts.proofs.CardPlaces.{file-ring}
use Rattle.run_acts.proofs.CardStays.{valid-found}
use Rattle.run_acts.proofs.EnteredFacts.{mine-back, each, card-run, early-run, card-tells, unit-told}
use Rattle.run_acts.proofs.EnteredWhole.{found-in}
use Rattle.run_acts.specs.run_note_record.Sessions.{Opens}
use Rattle.recorder_with_cards.specs.JudgedRings.{JudgesIn}

-- ---- bytes

-- what lies before a place stays
front-same : (place a n : ℕ) (x c : List ℕ) → take place c ≡ take place x → a + n ≤ place → bytes_at c a n ≡ bytes_at x a n
front-same place a n x c same le =
    let front : take (a + n) c ≡ take (a + n) x = sym (take-take (a + n) place c le) ∙ ap (λ (l : List ℕ). take (a + n) l) same ∙ take-take (a + n) place x le in
    sym (drop-take a n c) ∙ ap (λ (l : List ℕ). drop a l) front ∙ drop-take a n x

put-reaches : (place : ℕ) (bytes x : List ℕ) → place ≤ length x → place + length bytes ≤ length (put place bytes x)
put-reaches place bytes x le =
    let front : length (take place x) ≡ place = length-take-le place x le in
    let all = length-append (take place x) (bytes ++ drop (place + length bytes) x) in
    let rest = length-append bytes (drop (place + length bytes) x) in
    omega (arith, front, all, rest)

-- ---- A CARD THAT IS INSERTED

module _ (app : Application) where
  abbrev Same : List ℕ → List ℕ → Type 0
  Same x c = bytes_at c (place_ring app).base (ring_size (place_ring app)) ≡ bytes_at x (place_ring app).base (ring_size (place_ring app))

  -- the session time lies in it
  abbrev Room : List ℕ → Type 0
  Room x = place_of app (file 0x0507) + 4 ≤ length x

  abbrev Stays : List ℕ → List ℕ → Type 0
  Stays x c = Room c × Same x c

  abbrev Step : (List ℕ → List ℕ → Type 0) → Type 0
  Step S = (x c : List ℕ) → Room x → S x c → Stays x c

  -- the places lie before the current use
  places-first : (place_ring app).base + ring_size (place_ring app) ≤ place_of app (file 0x0507)
  unfolding files_of
  places-first = omega arith

  same-image : (x c : List ℕ) → c ≡ x → Same x c
  same-image x c is = ap (λ (l : List ℕ). bytes_at l (place_ring app).base (ring_size (place_ring app))) is

  same-stays : (x c : List ℕ) → Room x → c ≡ x → Stays x c
  same-stays x c room is = (subst Room (sym is) room, same-image x c is)

  then-stays : (x y c : List ℕ) → Stays x y → Stays y c → Stays x c
  then-stays x y c first next = (next.0, next.1 ∙ first.1)

  put-same : (place : ℕ) (bytes x : List ℕ) → place_of app (file 0x0507) ≤ place → place ≤ length x → Same x (put place bytes x)
  put-same place bytes x low fits =
      let front : length (take place x) ≡ place = length-take-le place x fits in
      front-same place (place_ring app).base (ring_size (place_ring app)) x (put place bytes x)
      (take_at (take place x) (bytes ++ drop (place + length bytes) x) place front) (omega (arith, low, places-first))

  timed-stays : (seconds : ℕ) (x : List ℕ) → Room x → Stays x (timed app seconds x)
  timed-stays seconds x room = (
    (let reaches = put-reaches (place_of app (file 0x0507)) (time_bytes (record { 0 = seconds })) x (omega (arith, room)) in omega (arith, reaches)),
    put-same (place_of app (file 0x0507)) (time_bytes (record { 0 = seconds })) x (omega arith) (omega (arith, room)),
  )

  registered-stays : (registration : Registration) (x : List ℕ) → Room x → Stays x (registered app registration x)
  registered-stays registration x room = (
    (let reaches = put-reaches (place_of app (file 0x0507) + 4) registration.0 x room in omega (arith, reaches)),
    put-same (place_of app (file 0x0507) + 4) registration.0 x (omega arith) room,
  )

  card-stays : (P : List ℕ → List Day → Vehicles → Type 0) → Step (λ x c. IsCard app (P x) x c)
  card-stays P x c room is = (let same = is.outside.same_length in omega (arith, room, same), file-ring app x c (card-places app x c (P x) is))

  noted-stays : (now : ℕ) → Step (IsNoted app now)
  noted-stays now x c room (inl held) = same-stays x c room held.1
  noted-stays now x c room (inr noted) = (let same = noted.1.entry.outside.same_length in omega (arith, room, same), file-ring app x c (noted-places app x c _ noted.1))

  noting-stays : (now : ℕ) → Step (IsNoting app now)
  noting-stays now x c room noting = (
    (let same : length c ≡ length x = ⊎_elim (λ same. ap (λ (l : List ℕ). length l) same) (λ changed. ⊎_elim (λ absent. absent.outside.same_length) (λ replaced. replaced.outside.same_length) changed) noting.1.entry in omega (arith, room, same)),
    file-ring app x c (event-places app x c _ noting.1),
  )

  ended-stays : Step (IsEnded app)
  ended-stays x c room is = subst (λ (l : List ℕ). Stays x l) (sym is) (timed-stays 0 x room)

  ending-stays : Step (IsEnding app)
  ending-stays x c room (inl same) = same-stays x c room same
  ending-stays x c room (inr ended) = ended-stays x c room ended

  during-stays : (R S R' : List ℕ → List ℕ → Type 0) → Step R → Step S → Step R' → Step (During R S R')
  during-stays R S R' before done behind x c room (inl early) = before x c room early
  during-stays R S R' before done behind x c room (inr late) =
      let first = done x late.0 room late.1 in
      then-stays x late.0 c first (behind late.0 c first.0 late.2)

  module _ (registration : Registration) (odometer now : ℕ) where
    opening-stays : Step (IsOpening app registration now)
    opening-stays x c room (inl partly) = (
      (let same = partly.outside.same_length in omega (arith, room, same)),
      part_before (place_of app (file 0x0507) + 4) (length registration.0) (place_ring app).base (ring_size (place_ring app)) x c partly.outside (omega (arith, places-first)),
    )
    opening-stays x c room (inr (inl named)) = subst (λ (l : List ℕ). Stays x l) (sym named) (registered-stays registration x room)
    opening-stays x c room (inr (inr opened)) =
        let first = registered-stays registration x room in
        subst (λ (l : List ℕ). Stays x l) (sym opened) (then-stays x (registered app registration x) (timed app now (registered app registration x)) first (timed-stays now (registered app registration x) first.0))

    still : Step (IsStill app)
    still = card-stays (λ x. IsBook (book_of app x))

    shut : Step (IsShut app)
    shut = card-stays (λ x. IsBook (closed app.activity Rest (book_of app x)))

    shutting : Step (IsShutting app)
    shutting = card-stays (λ x. IsCloseMoment app.activity Rest (book_of app x))

    repaired-stays : (owed : List Entry) → Step (IsRepaired app registration odometer owed)
    repaired-stays owed = card-stays (λ x. IsBook (repaired app.activity registration odometer owed (book_of app x)))

    repairing-stays : (owed : List Entry) → Step (IsRepairing app registration odometer owed)
    repairing-stays owed = card-stays (λ x. IsRepairMoment app.activity registration odometer owed (book_of app x))

    inserting-stays : (owed : List Entry) → Step (IsCardInserting app registration odometer owed now)
    inserting-stays owed x c room (inl shut_one) =
        during-stays (IsStill app) (IsStill app) _ still still (during-stays (IsShutting app) (IsShut app) _ shutting shut opening-stays) x c room shut_one.1
    inserting-stays owed x c room (inr open_one) =
        during-stays (IsStill app) (IsStill app) _ still still
        (during-stays (IsRepairing app registration odometer owed) (IsRepaired app registration odometer owed) _ (repairing-stays owed) (repaired-stays owed)
        (during-stays (IsNoting app now) (IsNoted app now) _ (noting-stays now) (noted-stays now)
        (during-stays (IsShutting app) (IsShut app) _ shutting shut (during-stays (IsEnding app) (IsEnded app) _ ending-stays ended-stays opening-stays)))) x c room open_one.1

  -- with what is noted behind it
  module _ (registration : Registration) (e : Entering) (unit : List ℕ) where
    coming : (notes : List CardNote) (x c : List ℕ) → Room x → AreBeingDone (IsOnCard app registration e unit) (IsComingOnCard app registration e unit) notes x c → Same x c
    coming [] x c room h = absurd h
    coming (PutIn ∷ notes) x c room (inl moment) = (inserting-stays registration e.odometer.0 e.at.second (owed_on app unit x) x c room moment).1
    coming (Shows event ∷ notes) x c room (inl moment) = file-ring app x c (event-places app x c event moment)
    coming (PutIn ∷ notes) x c room (inr (z, done, rest)) =
        let first = inserting-stays registration e.odometer.0 e.at.second (owed_on app unit x) x z room (inserted_moment app registration e.odometer.0 e.at.second (owed_on app unit x) x z done) in
        coming notes z c first.0 rest ∙ first.1
    coming (Shows event ∷ notes) x c room (inr (z, done, rest)) =
        let same = done.entry.outside.same_length in
        coming notes z c (omega (arith, room, same)) rest ∙ file-ring app x z (noted-places app x z event done)

-- ---- and its vehicle entries

module _ (app : Application) (good : IsApplication app) (Is : Reading → Type 0) (registration : Registration) (named : length registration.0 ≡ 15) (e : Entering) (here : (minute : ℕ) → minute < e.at.second / 60 → Is (reading_at minute e.odometer.0)) (unit : List ℕ) (early : last_kept unit < e.at.second / 60) where
  put-goes : (x z : List ℕ) → image_size_of app ≤ length x → IsCardInserting app registration e.odometer.0 (owed_on app unit x) e.at.second x z → GoesMeasured app Is x z
  put-goes x z fits moment = inserting-goes app Is good registration named e.odometer.0 e.at.second here (owed_on app unit x) (owed-follows app unit x) (owed-early app unit x (e.at.second / 60) early) x z fits moment

  pub coming-goes : (notes : List CardNote) (x c : List ℕ) → image_size_of app ≤ length x → AreBeingDone (IsOnCard app registration e unit) (IsComingOnCard app registration e unit) notes x c → GoesMeasured app Is x c
  coming-goes [] x c fits h = absurd h
  coming-goes (PutIn ∷ notes) x c fits (inl moment) = put-goes x c fits moment
  coming-goes (Shows event ∷ notes) x c fits (inl moment) = bytes-go app Is good x c (event-days app x c event moment) (event-vehicles app x c event moment)
  coming-goes (PutIn ∷ notes) x c fits (inr (z, done, rest)) =
      let moment = inserted_moment app registration e.odometer.0 e.at.second (owed_on app unit x) x z done in
      let same = (inserting_keeps app registration e.odometer.0 e.at.second (owed_on app unit x) named x z (omega (arith, fits, use_inside app)) moment).1 in
      goes-then app Is x z c (put-goes x z fits moment) (coming-goes notes z c (omega (arith, fits, same)) rest)
  coming-goes (Shows event ∷ notes) x c fits (inr (z, done, rest)) =
      let same = done.entry.outside.same_length in
      goes-then app Is x z c (bytes-go app Is good x z (noted-days app x z event done) (noted-vehicles app x z event done)) (coming-goes notes z c (omega (arith, fits, same)) rest)

-- ---- and its session

-- events alone, as of a vehicle that moves
abbrev AreEvents : List CardNote → Type 0
AreEvents [] = Unit {0}
AreEvents (PutIn ∷ shown) = ⊥
AreEvents (Shows event ∷ shown) = AreEvents shown

moving-events : (moves : Bool) (event : CardEvent) → AreEvents (cond moves (Shows event ∷ []) [])
moving-events true event = tt
moving-events false event = tt

module _ (app : Application) (registration : Registration) (named : length registration.0 ≡ 15) (e : Entering) (small : e.at.second < 2 ^ 32) (unit : List ℕ) where
  coming-session : (notes : List CardNote) (x c : List ℕ) → image_size_of app ≤ length x → AreBeingDone (IsOnCard app registration e unit) (IsComingOnCard app registration e unit) notes x c → SessionGoes app (IsNoneOr e.at.second) x c
  coming-session [] x c fits h = absurd h
  coming-session (PutIn ∷ notes) x c fits (inl moment) = inserting-session app registration e.at.second named small e.odometer.0 (owed_on app unit x) x c fits moment
  coming-session (Shows event ∷ notes) x c fits (inl moment) = event-session app (IsNoneOr e.at.second) event x c moment
  coming-session (PutIn ∷ notes) x c fits (inr (z, done, rest)) =
      let moment = inserted_moment app registration e.odometer.0 e.at.second (owed_on app unit x) x z done in
      let same = (inserting_keeps app registration e.odometer.0 e.at.second (owed_on app unit x) named x z (omega (arith, fits, use_inside app)) moment).1 in
      session-then app (IsNoneOr e.at.second) x z c (inserting-session app registration e.at.second named small e.odometer.0 (owed_on app unit x) x z fits moment) (coming-session notes z c (omega (arith, fits, same)) rest)
  coming-session (Shows event ∷ notes) x c fits (inr (z, done, rest)) =
      let same = done.entry.outside.same_length in
      session-then app (IsNoneOr e.at.second) x z c (noted-session app (IsNoneOr e.at.second) event x z done) (coming-session notes z c (omega (arith, fits, same)) rest)

  -- behind all of it it tells of this one
  event-same : (event : CardEvent) (x z : List ℕ) → IsEventNoted app event x z → session_time app z ≡ session_time app x
  event-same event x z done = ⊎_elim (λ same. same) (λ none. absurd none) (noted-session app (λ (t : ℕ). ⊥) event x z done)

  events-same : (shown : List CardNote) (x c : List ℕ) → AreEvents shown → AreDone (IsOnCard app registration e unit) shown x c → session_time app c ≡ session_time app x
  events-same [] x c are done = ap (λ (l : List ℕ). session_time app l) done
  events-same (PutIn ∷ shown) x c are done = absurd are
  events-same (Shows event ∷ shown) x c are (z, first, rest) = events-same shown z c are rest ∙ event-same event x z first

  put-opened : (shown : List CardNote) (x c : List ℕ) → image_size_of app ≤ length x → AreEvents shown → AreDone (IsOnCard app registration e unit) (PutIn ∷ shown) x c → session_time app c ≡ e.at.second
  put-opened shown x c fits are (z, done, rest) = events-same shown z c are rest ∙ inserted-session app registration e.at.second named small e.odometer.0 (owed_on app unit x) x z fits done

same-self : (x : Card) → same_card x x ≡ true
same-self A = refl
same-self B = refl

-- what is to be known of an ending in which the card was called: it is accepted, or a call failed
abbrev pub IsToldOpen : RunLog → (second : ℕ) → (failed : Bool) → List Verdict → Ending → Type 0
IsToldOpen log u failed verdicts (Unfit fid place) = Unit {0}
IsToldOpen log u failed verdicts (Ahead stored) = Unit {0}
IsToldOpen log u failed verdicts Fell = has_call_failed_in log u ≡ true
IsToldOpen log u failed verdicts Unasked = Unit {0}
IsToldOpen log u failed verdicts (Unnoted entered clock) = (filter is_accepting verdicts ≢ []) × (failed ≡ true)
IsToldOpen log u failed verdicts (Seated entered clock entry) = filter is_accepting verdicts ≢ []
IsToldOpen log u failed verdicts (Lost entered clock entry) = (filter is_accepting verdicts ≢ []) × (has_call_failed_in log u ≡ true)

-- it is accepted, but where a call failed
abbrev pub IsToldSure : RunLog → (second : ℕ) → (failed : Bool) → Ending → Type 0
IsToldSure log u failed (Unfit fid place) = ⊥
IsToldSure log u failed (Ahead stored) = ⊥
IsToldSure log u failed Fell = ⊥
IsToldSure log u failed Unasked = ⊥
IsToldSure log u failed (Unnoted entered clock) = failed ≡ true
IsToldSure log u failed (Seated entered clock entry) = Unit {0}
IsToldSure log u failed (Lost entered clock entry) = has_call_failed_in log u ≡ true

sitting-told : (log : RunLog) (u : ℕ) (failed : Bool) (verdicts : List Verdict) (ending : Ending) → IsSitting ending → IsToldOpen log u failed verdicts ending → filter is_accepting verdicts ≢ []
sitting-told log u failed verdicts (Unfit fid place) sits told = absurd sits
sitting-told log u failed verdicts (Ahead stored) sits told = absurd sits
sitting-told log u failed verdicts Fell sits told = absurd sits
sitting-told log u failed verdicts Unasked sits told = absurd sits
sitting-told log u failed verdicts (Unnoted entered clock) sits told = absurd sits
sitting-told log u failed verdicts (Seated entered clock entry) sits told = told
sitting-told log u failed verdicts (Lost entered clock entry) sits told = absurd sits

-- it sits, and the unit did not fail; or the unit failed, if it sits
sits-or : (ending : Ending) (failed : Bool) → (IsSitting ending × (failed ≡ false)) ⊎ (IsSitting ending → failed ≡ true)
sits-or (Unfit fid place) failed = inr (λ sits. absurd sits)
sits-or (Ahead stored) failed = inr (λ sits. absurd sits)
sits-or Fell failed = inr (λ sits. absurd sits)
sits-or Unasked failed = inr (λ sits. absurd sits)
sits-or (Unnoted entered clock) failed = inr (λ sits. absurd sits)
sits-or (Seated entered clock entry) false = inl (tt, refl)
sits-or (Seated entered clock entry) true = inr (λ sits. refl)
sits-or (Lost entered clock entry) failed = inr (λ sits. absurd sits)

-- then no note on it was cut short
sits-uncut : (ending : Ending) (failed : Bool) → IsSitting ending → failed ≡ false → is_cut ending failed ≡ false
sits-uncut (Unfit fid place) failed sits well = absurd sits
sits-uncut (Ahead stored) failed sits well = absurd sits
sits-uncut Fell failed sits well = absurd sits
sits-uncut Unasked failed sits well = absurd sits
sits-uncut (Unnoted entered clock) failed sits well = absurd sits
sits-uncut (Seated entered clock entry) failed sits well = well
sits-uncut (Lost entered clock entry) failed sits well = absurd sits

other-apart : (x : Card) → same_card x (other x) ≡ true → ⊥
other-apart A is = let wrong : false ≡ true = is in cc
other-apart B is = let wrong : false ≡ true = is in cc

-- a conjunction of which the second is not
both-hold : (m f : Bool) → (m && not f) ≡ true → (m ≡ true) × (f ≡ false)
both-hold true false is = (refl, refl)
both-hold true true is = absurd (let wrong : false ≡ true = is in cc)
both-hold false f is = absurd (let wrong : false ≡ true = is in cc)

-- ---- IT IS JUDGED

module _ (o : Origin) (done : List TraceSecond) (s : TraceSecond) (n : ℕ) (waits fewer : List Visit) (e : Entering) (k : Keeper) (out : Outcome) (unfound next_ begun : ℕ) (minutes : Kept) (U X Z : State) (w : RecordInSecond o done s (In n) waits None [] (values_with k out unfound next_ begun minutes) (arranged e.which U X Z)) (m : MayJudge o done s n waits fewer e k out unfound next_ begun minutes U X Z w)
    (origin : IsOrigin o) (failed : Bool) (k' : Keeper) (noted noted' : ℕ) (out' : Outcome) (W Y : State) (way : Way) (g : HasGone e failed k k' noted noted' out out' U W X Y Z way) (sound : AreSound U W X Y) (fits : LARGEST_IMAGE ≤ X.size)
    (spans : List SpanFrom) (reads : IsReading spans s.number e.odometer.0) (second : e.at.second ≡ s.number) (small : s.number < 2 ^ 32) (opens : IsToldOpen (log_of out') s.number failed (found_in (log_of out') s.number (In n) e.slot) (ending_of way)) (works : IsSitting (ending_of way) → Y.works ≡ true) where
  -- the session that it may tell
  abbrev May : Card → ℕ → Type 0
  May = JudgesIn failed (log_of out') (record { second = s.number; slot = e.slot; card = e.which }) (found_in (log_of out') s.number (In n) e.slot)

  -- of this card, where it was valid
  module _ (valid : IsOwnValid (card_image o.recording e.which)) where
    there : IsOwnValid (found_of o.found e.which).image
    there = valid-found o origin e.which valid

    sizes-are : (x : List ℕ) → X.may_leave x → own_sizes x ≡ sizes_in o e.which
    sizes-are x at = ((w.powered.go.held e.which there).now x (mine-back e.which U X Z (λ (q : State). q.may_leave x) at)).0 ∙ ap own_sizes (origin.image e.which)

    good : IsApplication (sizes_in o e.which)
    good = subst (λ (l : List ℕ). IsApplication (own_sizes l)) (origin.image e.which) (w.found.sizes e.which there)

    all : (x : List ℕ) → X.may_leave x → image_size_of (sizes_in o e.which) ≤ length x
    all x at =
        let most = largest_image (sizes_in o e.which) good in
        let long = sound.card_before.left_sized x at in
        omega (arith, fits, most, long)

    room : (x : List ℕ) → X.may_leave x → place_of (sizes_in o e.which) (file 0x0507) + 4 ≤ length x
    room x at = let whole = all x at in omega (arith, whole, use_inside (sizes_in o e.which))

    named : length k.memory.registration.0 ≡ 15
    named = subst (λ (r : Registration). length r.0 ≡ 15) (sym (m.vehicle ∙ origin.vehicle e.which)) origin.named

    was : (x : List ℕ) × X.may_leave x × IsFoundIn e.at.second U.image way x
    was = found-in o done s n waits fewer e k out unfound next_ begun minutes U X Z w m failed k' noted noted' out' W Y way g sound

    by-way : (v : Way) (u x y : List ℕ) → X.may_leave x → IsFoundIn e.at.second U.image v was.0 → AreComingOnCard v k.memory.registration e u x y → HasSamePlaces (card_image o.recording e.which) x y
    by-way Unread u x y at found comes = absurd comes
    by-way (Unsized field) u x y at found comes = absurd comes
    by-way (Judged app ending) u x y at found comes =
        let same : app ≡ sizes_in o e.which = sym found.0 ∙ sizes-are was.0 was.1 in
        coming (sizes_in o e.which) k.memory.registration e u (card_notes_by ending k.memory.registration e) x y (room x at)
        (subst (λ (a : Application). AreBeingDone (IsOnCard a k.memory.registration e u) (IsComingOnCard a k.memory.registration e u) (card_notes_by ending k.memory.registration e) x y) same comes)

    own : LeavesPlaces (card_image o.recording e.which) X Y
    own y left =
        let run = card-run o done s n waits fewer e k out unfound next_ begun minutes U X Z w m failed k' noted noted' out' W Y way g sound in
        ⊎_elim (λ before. (y, before, refl)) (λ here. (here.2.0, here.2.1, by-way way run.0 here.2.0 y here.2.1 was.2 here.2.2)) (run.1.now y left)

    -- its odometer is a reading of each minute that has ended, where it is called
    reads-early : May e.which s.number → (minute : ℕ) → minute < e.at.second / 60 → IsReadingOf spans (May e.which) (reading_at minute e.odometer.0)
    reads-early may minute early = inr (s.number, may, subst (λ (n : ℕ). minute < n / 60) second early, reads)

    called : (a : Application) (u x y : List ℕ) (ending : Ending) → IsToldOpen (log_of out') s.number failed (found_in (log_of out') s.number (In n) e.slot) ending
        → AreBeingDone (IsOnCard a k.memory.registration e u) (IsComingOnCard a k.memory.registration e u) (card_notes_by ending k.memory.registration e) x y → May e.which s.number
    called a u x y (Unfit fid place) told comes = absurd comes
    called a u x y (Ahead stored) told comes = absurd comes
    called a u x y Fell told comes = (same-self e.which, inr (inr (inr refl, told)))
    called a u x y Unasked told comes = absurd comes
    called a u x y (Unnoted entered clock) told comes = (same-self e.which, inl (told.0, refl))
    called a u x y (Seated entered clock entry) told comes = (same-self e.which, inl (told, refl))
    called a u x y (Lost entered clock entry) told comes = (same-self e.which, inr (inr (inr refl, told.1)))

    by-way-goes : (v : Way) → IsToldOpen (log_of out') s.number failed (found_in (log_of out') s.number (In n) e.slot) (ending_of v) → (u x y : List ℕ) → last_kept u < e.at.second / 60 → X.may_leave x → IsFoundIn e.at.second U.image v was.0 → AreComingOnCard v k.memory.registration e u x y → GoesByReadings spans (May e.which) (card_image o.recording e.which) x y
    by-way-goes Unread told u x y early at found comes = absurd comes
    by-way-goes (Unsized field) told u x y early at found comes = absurd comes
    by-way-goes (Judged app ending) told u x y early at found comes =
        let same : app ≡ sizes_in o e.which = sym found.0 ∙ sizes-are was.0 was.1 in
        coming-goes (sizes_in o e.which) good (IsReadingOf spans (May e.which)) k.memory.registration named e (reads-early (called app u x y ending told comes)) u early (card_notes_by ending k.memory.registration e) x y (all x at)
        (subst (λ (a : Application). AreBeingDone (IsOnCard a k.memory.registration e u) (IsComingOnCard a k.memory.registration e u) (card_notes_by ending k.memory.registration e) x y) same comes)

    own-goes : (y : List ℕ) → Y.may_leave y → (x : List ℕ) × X.may_leave x × GoesByReadings spans (May e.which) (card_image o.recording e.which) x y
    own-goes y left =
        let run = early-run o done s n waits fewer e k out unfound next_ begun minutes U X Z w m failed k' noted noted' out' W Y way g sound in
        ⊎_elim
        (λ before. (y, before, goes-itself (sizes_in o e.which) (IsReadingOf spans (May e.which)) y))
        (λ late. (late.2.0, late.2.1, by-way-goes way opens run.0 late.2.0 y run.1 late.2.1 was.2 late.2.2))
        (run.2.now y left)

    -- that is accepted, of which no call failed: its image is that of the insertion, with what was noted on it
    done-on : is_cut (ending_of way) failed ≡ false → Y.works ≡ true → (z : List ℕ) → Y.may_leave z → (u : List ℕ) × (x : List ℕ) × X.may_leave x × IsFoundIn e.at.second U.image way x × AreOnCard way k.memory.registration e u x z
    done-on uncut well z left =
        let x = told-one X.image (card-tells o done s n waits fewer e k out unfound next_ begun minutes U X Z w m) in
        let u = unit-told o done s n waits fewer e k out unfound next_ begun minutes U X Z w m in
        let f = at_image (λ (x : List ℕ). (y : List ℕ) × X.may_leave y × IsFoundIn e.at.second U.image way y × (is_cut (ending_of way) failed ≡ false → IfSome U.image (λ u. IfSome Y.image (AreOnCard way k.memory.registration e u y)))) x.1 g.entered.found in (
          u.0,
          f.0,
          f.1,
          f.2,
          at_image (AreOnCard way k.memory.registration e u.0 f.0) (sound.card_behind.only z well left) (at_image (λ (v : List ℕ). IfSome Y.image (AreOnCard way k.memory.registration e v f.0)) u.1 (f.3 uncut)),
        )

    seated-opens : (v : Way) → IsSitting (ending_of v) → (u x z : List ℕ) → X.may_leave x → IsFoundIn e.at.second U.image v x → AreOnCard v k.memory.registration e u x z → session_time (sizes_in o e.which) z ≡ e.at.second
    seated-opens Unread sits u x z at found on = absurd sits
    seated-opens (Unsized field) sits u x z at found on = absurd sits
    seated-opens (Judged app (Unfit fid place)) sits u x z at found on = absurd sits
    seated-opens (Judged app (Ahead stored)) sits u x z at found on = absurd sits
    seated-opens (Judged app Fell) sits u x z at found on = absurd sits
    seated-opens (Judged app Unasked) sits u x z at found on = absurd sits
    seated-opens (Judged app (Unnoted entered clock)) sits u x z at found on = absurd sits
    seated-opens (Judged app (Seated entered clock entry)) sits u x z at found on =
        let same : app ≡ sizes_in o e.which = sym found.0 ∙ sizes-are x at in
        put-opened (sizes_in o e.which) k.memory.registration named e (omega (arith, second, small)) u (moving_on_card k.memory.registration e) x z (all x at) (moving-events (nat_lt 0 e.speed) (moving_event k.memory.registration e))
        (subst (λ (a : Application). AreDone (IsOnCard a k.memory.registration e u) (PutIn ∷ moving_on_card k.memory.registration e) x z) same on)
    seated-opens (Judged app (Lost entered clock entry)) sits u x z at found on = absurd sits

    now-opens : IsSitting (ending_of way) → failed ≡ false → (z : List ℕ) → Y.may_leave z → (x : List ℕ) × X.may_leave x × (session_time (sizes_in o e.which) z ≡ s.number)
    now-opens sits well z left =
        let on = done-on (sits-uncut (ending_of way) failed sits well) (works sits) z left in
        (on.1, on.2, seated-opens way sits on.0 on.1 z on.2 on.3 on.4 ∙ second)

    -- a session of this second comes where it was called, or none where a call failed
    module _ (u x y : List ℕ) where
      abbrev IsTold : Ending → Type 0
      IsTold ending = IsToldOpen (log_of out') s.number failed (found_in (log_of out') s.number (In n) e.slot) ending

      now-or : (t : ℕ) → IsNoneOr e.at.second t → (t ≡ 0) ⊎ (t ≡ s.number)
      now-or t is = ⊎_elim (λ none. inl none) (λ now. inr (now ∙ second)) is

      comes-open : (ending : Ending) → IsTold ending → (IsSitting ending → failed ≡ true)
          → AreBeingDone (IsOnCard (sizes_in o e.which) k.memory.registration e u) (IsComingOnCard (sizes_in o e.which) k.memory.registration e u) (card_notes_by ending k.memory.registration e) x y
          → (t : ℕ) → IsNoneOr e.at.second t → May e.which t
      comes-open (Unfit fid place) told fails comes t is = absurd comes
      comes-open (Ahead stored) told fails comes t is = absurd comes
      comes-open Fell told fails comes t is = (same-self e.which, inr (inr (now-or t is, told)))
      comes-open Unasked told fails comes t is = absurd comes
      comes-open (Unnoted entered clock) told fails comes t (inl none) = (same-self e.which, inr (inl (told.1, none)))
      comes-open (Unnoted entered clock) told fails comes t (inr is) = (same-self e.which, inl (told.0, is ∙ second))
      comes-open (Seated entered clock entry) told fails comes t (inl none) = (same-self e.which, inr (inl (fails tt, none)))
      comes-open (Seated entered clock entry) told fails comes t (inr is) = (same-self e.which, inl (told, is ∙ second))
      comes-open (Lost entered clock entry) told fails comes t is = (same-self e.which, inr (inr (now-or t is, told.1)))

      coming-opens : (ending : Ending) → IsTold ending → (IsSitting ending → failed ≡ true) → X.may_leave x
          → AreBeingDone (IsOnCard (sizes_in o e.which) k.memory.registration e u) (IsComingOnCard (sizes_in o e.which) k.memory.registration e u) (card_notes_by ending k.memory.registration e) x y
          → SessionGoes (sizes_in o e.which) (May e.which) x y
      coming-opens ending told fails at comes =
          session-more (sizes_in o e.which) (IsNoneOr e.at.second) (May e.which) (comes-open ending told fails comes) x y
          (coming-session (sizes_in o e.which) k.memory.registration named e (omega (arith, second, small)) u (card_notes_by ending k.memory.registration e) x y (all x at) comes)

      by-way-opens : (v : Way) → IsTold (ending_of v) → (IsSitting (ending_of v) → failed ≡ true) → X.may_leave x → IsFoundIn e.at.second U.image v was.0 → AreComingOnCard v k.memory.registration e u x y → SessionGoes (sizes_in o e.which) (May e.which) x y
      by-way-opens Unread told fails at found comes = absurd comes
      by-way-opens (Unsized field) told fails at found comes = absurd comes
      by-way-opens (Judged app ending) told fails at found comes =
          let same : app ≡ sizes_in o e.which = sym found.0 ∙ sizes-are was.0 was.1 in
          coming-opens ending told fails at
          (subst (λ (a : Application). AreBeingDone (IsOnCard a k.memory.registration e u) (IsComingOnCard a k.memory.registration e u) (card_notes_by ending k.memory.registration e) x y) same comes)

    own-opens : (y : List ℕ) → Y.may_leave y → (x : List ℕ) × X.may_leave x × SessionGoes (sizes_in o e.which) (May e.which) x y
    own-opens y left = ⊎_elim
        (λ sits.
        let on = now-opens sits.0 sits.1 y left in
        (on.0, on.1, inr (same-self e.which, inl (sitting-told (log_of out') s.number failed (found_in (log_of out') s.number (In n) e.slot) (ending_of way) sits.0 opens, on.2))))
        (λ fails.
        let run = card-run o done s n waits fewer e k out unfound next_ begun minutes U X Z w m failed k' noted noted' out' W Y way g sound in
        ⊎_elim
        (λ before. (y, before, session-itself (sizes_in o e.which) (May e.which) y))
        (λ late. (late.2.0, late.2.1, by-way-opens run.0 late.2.0 y way opens fails late.2.1 was.2 late.2.2))
        (run.1.now y left))
        (sits-or (ending_of way) failed)

  stays : PlacesStay o (arranged e.which U X Z) (arranged e.which W Y Z)
  stays c valid =
      each e.which U W X Y Z (λ (q : Card) (a b : State). IsOwnValid (card_image o.recording q) → LeavesPlaces (card_image o.recording q) a b) (λ v. own v) (λ v y left. (y, left, refl)) c valid

  goes : VehiclesGo o spans May (arranged e.which U X Z) (arranged e.which W Y Z)
  goes c valid =
      each e.which U W X Y Z (λ (q : Card) (a b : State). IsOwnValid (card_image o.recording q) → (y : List ℕ) → b.may_leave y → (x : List ℕ) × a.may_leave x × GoesByReadings spans (May q) (card_image o.recording q) x y)
      (λ v. own-goes v) (λ v y left. (y, left, goes-itself (sizes_in o (other e.which)) (IsReadingOf spans (May (other e.which))) y)) c valid

  sessions : SessionsGo o May (arranged e.which U X Z) (arranged e.which W Y Z)
  sessions c valid =
      each e.which U W X Y Z (λ (q : Card) (a b : State). IsOwnValid (card_image o.recording q) → (y : List ℕ) → b.may_leave y → (x : List ℕ) × a.may_leave x × SessionGoes (sizes_in o q) (May q) x y)
      (λ v. own-opens v) (λ v y left. (y, left, session-itself (sizes_in o (other e.which)) (May (other e.which)) y)) c valid

  -- SO THE PLACES of both cards stay, their vehicle entries are measured, and no other session comes
  pub judged-places : CardsGo o spans May (arranged e.which U X Z) (arranged e.which W Y Z)
  judged-places = record { places = stays; vehicles = goes; sessions = sessions }

  -- AND A CARD THAT IS ACCEPTED, in a second in which no call failed, tells of this session
  pub judged-opens : failed ≡ false → IsToldSure (log_of out') s.number failed (ending_of way) → Opens o (log_of out') (record { second = s.number; slot = e.slot; card = e.which }) (arranged e.which W Y Z)
  judged-opens well sure c valid opened =
      let holds = both-hold (same_card e.which c) (has_call_failed_in (log_of out') s.number) opened in
      each e.which U W X Y Z (λ (q : Card) (a b : State). same_card e.which q ≡ true → IsOwnValid (card_image o.recording q) → (z : List ℕ) → b.may_leave z → session_time (sizes_in o q) z ≡ s.number)
      (λ mine v z left. by holds.1 v z left (ending_of way) refl sure) (λ mine. absurd (other-apart e.which mine)) c holds.0 valid
    where
      by : has_call_failed_in (log_of out') s.number ≡ false → IsOwnValid (card_image o.recording e.which) → (z : List ℕ) → Y.may_leave z → (q : Ending) → ending_of way ≡ q → IsToldSure (log_of out') s.number failed q → session_time (sizes_in o e.which) z ≡ s.number
      by none v z left (Unfit fid place) is told = absurd told
      by none v z left (Ahead stored) is told = absurd told
      by none v z left Fell is told = absurd told
      by none v z left Unasked is told = absurd told
      by none v z left (Unnoted entered clock) is told = absurd (let wrong : false ≡ true = sym well ∙ told in cc)
      by none v z left (Seated entered clock entry) is told = (now-opens v (subst (λ (q : Ending). IsSitting q) (sym is) tt) well z left).2
      by none v z left (Lost entered clock entry) is told = absurd (let wrong : false ≡ true = sym none ∙ told in cc)
