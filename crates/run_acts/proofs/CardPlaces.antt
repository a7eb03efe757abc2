-- Calls that leave the places of the cards: an event is noted, minutes are kept, a session is closed; and the note of a place.
use Rattle.std.proofs.Common.{◌≡◌, ◌∙◌, ◌⊎◌, inl, inr, ⊎_elim, ℕ, ◌+◌, ◌≤◌, Bool, true, false, Option, Some, None, IfSome, List, [], ◌∷◌, ◌++◌, Contains, length, refl, sym, ap, subst, arith}
use Rattle.std.specs.Prelude.{Ok, filter, nat_eq, is_some}
use Rattle.std.specs.List.{list_any}
use Rattle.std.proofs.lemmas.Bool.Decides.{nat_tests}
use Rattle.std.proofs.lemmas.List.Elements.{filter-append}
use Rattle.activity_codec.specs.declared.values.Activity.{Activity}
use Rattle.activity_codec.specs.declared.values.Slot.{Slot}
use Rattle.trace_model.specs.declared.Card.{Card}
use Rattle.trace_model.specs.declared.Card.TheVariants.{A, B}
use Rattle.trace_model.specs.Trace.{TraceSecond}
use Rattle.tacho_types.specs.declared.places.PlaceEntry.{PlaceEntry}
use Rattle.tacho_types.specs.Places.{place_bytes}
use Rattle.tach_media.specs.Medium.{State, IsCoherent, LeavesOnly, bytes_at}
use Rattle.tach_media.proofs.Runs.{at_image}
use Rattle.card_files.specs.card_layout.declared.command.CardState.{CardState}
use Rattle.card_files.specs.card_layout.declared.files.Application.{Application}
use Rattle.card_files.specs.card_layout.declared.files.TheConstants.{LARGEST_IMAGE}
use Rattle.card_files.specs.card_layout.Application.{IsApplication}
use Rattle.card_files.specs.card_layout.Files.{files_of, place_of, size_of}
use Rattle.card_files.proofs.card_layout.Sizes.{largest_image}
use Rattle.run_events.specs.gated_ring.Ring.{PointsInside, size_of as ring_size}
use Rattle.card_files.specs.declared.card_event.CardEvent.{CardEvent}
use Rattle.card_files.specs.Noting.{IsNotingEvent, IsPlaceNoted, IsNotingPlace}
use Rattle.card_files.specs.Rings.{file, place_ring}
use Rattle.hand_model.specs.card_image.Beside.{HaveSameDays, HaveSameVehicles}
use Rattle.hand_model.specs.card_image.Fields.{file_bytes, day_string, vehicle_ring, current_use, session_time}
use Rattle.hand_model.specs.card_image.Own.{own_sizes, IsOwnValid}
use Rattle.device_calls.specs.card_session.Sessions.{IsSession}
use Rattle.device_calls.specs.card_session.Cards.{IsCardClosing}
use Rattle.device_calls.proofs.card_session.InsertingUse.{use_inside}
use Rattle.device_calls.proofs.card_session.Stopping.{closed_session}
use Rattle.unit_model.specs.minute_model.declared.Minute.{Minute}
use Rattle.log_model.specs.declared.lines.Break.{Break}
use Rattle.log_model.specs.Causes.{has_failed, second_of}
use Rattle.log_model.specs.Log.{RunLog, Phase}
use Rattle.log_model.specs.Slots.{same_card}
use Rattle.log_model.specs.Course.{Visit}
use Rattle.unit_notes.specs.note_model.Noted.{PlaceNote}
use Rattle.unit_notes.specs.note_model.Odometer.{SpanFrom}
use Rattle.device_calls.specs.device_rule.Views.{other}
use Rattle.device_calls.specs.safety_model.Recording.{card_image}
use Rattle.device_calls.specs.safety_model.Safe.{Devices, card_of}
use Rattle.run_crew.specs.declared.cards.Accepted.{Accepted}
use Rattle.run_crew.specs.declared.cards.Cards.{Cards}
use Rattle.run_crew.specs.Cards.{known_of, session_of}
use Rattle.run_minutes.specs.run_promise.Found.{found_of}
use Rattle.run_minutes.specs.run_promise.Between.{RunLedger}
use Rattle.run_minutes.specs.run_devices.Told.{AreFoundCards, DevicesPowered, SessionIsOnCard, arranged}
use Rattle.run_minutes.specs.run_devices.Measured.{Reading, GoesMeasured}
use Rattle.run_minutes.specs.run_devices.Sessions.{SessionGoes, IsNone}
use Rattle.run_minutes.proofs.run_devices.CardUse.{note-use}
use Rattle.run_minutes.proofs.run_devices.Sessions.{session-itself, session-then, session-same, session-more, file-session, close-session}
use Rattle.run_minutes.proofs.run_devices.Holders.{event-places, closing-places}
use Rattle.run_minutes.proofs.run_devices.Measured.{goes-itself, goes-then, goes-more, bytes-go, close-goes, event-days, event-vehicles, place-days, place-vehicles}
use Rattle.run_minutes.proofs.run_devices.Parts.{CardLit, parts-of}
use Rattle.run_record.proofs.Seats.{this-or}
use Rattle.run_outcome.specs.declared.outcome.Outcome.{Outcome}
use Rattle.run_minutes.specs.run_promise.Origin.{Origin}
use Rattle.run_note_record.specs.OnCards.{has_call_failed_in, places_in, place_width, PlacesStay, IsReadingAtEnd, IsReadingOf, GoesByReadings, VehiclesGo, SessionsGo, NoOtherComes, CardsGo, CardsStay, TakesPlace, PlaceIsTaken, LeavesPlaces as LeavesRing}
use Rattle.run_note_record.specs.Sessions.{EndsIf}
use Rattle.run_note_record.proofs.Sessions.{stay-may}
use Rattle.run_minutes.specs.declared.keeper.Moment.{Moment}
use Rattle.run_minutes.specs.Books.{AreTimedOn}
use Rattle.run_minutes.specs.Keeping.{CardMayBeCalled, tear_of}
use Rattle.run_acts.specs.declared.run.Run.{Run}
use Rattle.run_acts.specs.CardNotes.{LeavesPlaces, LeavePlaces}
use Rattle.run_acts.specs.Acting.{Closed}
use Rattle.run_acts.specs.CardWrites.{MayHavePlace, MayTakePlace, PlaceOn, ClosesCard}
use Rattle.run_acts.specs.Recording.{IsOrigin, RunWithin}
use Rattle.run_acts.specs.RunCards.{sizes_in}
use Rattle.run_acts.proofs.CardSecond.{any-last}
use Rattle.run_acts.proofs.CardStays.{valid-found, session-sizes}
use Rattle.run_acts.proofs.EnteredFacts.{each}

-- ---- one after another

pub stay-then : (o : Origin) (d e f : Devices) → PlacesStay o d e → PlacesStay o e f → PlacesStay o d f
stay-then o d e f first next c valid z left =
    let behind = next c valid z left in
    let was = first c valid behind.0 behind.1 in
    (was.0, was.1, behind.2 ∙ was.2)

-- the file is the ring
ring-file : (app : Application) → size_of app (file 0x0506) ≡ ring_size (place_ring app)
unfolding files_of
ring-file app = omega arith

pub file-ring : (app : Application) (x y : List ℕ) → file_bytes app 0x0506 y ≡ file_bytes app 0x0506 x → bytes_at y (place_ring app).base (ring_size (place_ring app)) ≡ bytes_at x (place_ring app).base (ring_size (place_ring app))
file-ring app x y same = subst (λ (n : ℕ). bytes_at y (place_of app (file 0x0506)) n ≡ bytes_at x (place_of app (file 0x0506)) n) (ring-file app) same

-- and then a card may be closed
pub ends-then : (o : Origin) (spans : List SpanFrom) (had : Bool) (card : Card) (d e f : Devices) → CardsStay o spans d e → CardsGo o spans (EndsIf had card) e f → CardsGo o spans (EndsIf had card) d f
ends-then o spans had card d e f first next = record { places = stay-then o d e f first.places next.places; vehicles = vehicles; sessions = sessions }
  where
    vehicles : VehiclesGo o spans (EndsIf had card) d f
    vehicles c valid z left =
        let behind = next.vehicles c valid z left in
        let was = (stay-may o spans (EndsIf had card) d e first).vehicles c valid behind.0 behind.1 in
        (was.0, was.1, goes-then (sizes_in o c) (IsReadingOf spans (EndsIf had card c)) was.0 behind.0 z was.2 behind.2)

    sessions : SessionsGo o (EndsIf had card) d f
    sessions c valid z left =
        let behind = next.sessions c valid z left in
        let was = first.sessions c valid behind.0 behind.1 in
        (was.0, was.1, session-then (sizes_in o c) (EndsIf had card c) was.0 behind.0 z (session-more (sizes_in o c) (NoOtherComes c) (EndsIf had card c) (λ t none. absurd none) was.0 behind.0 was.2) behind.2)

-- ---- MINUTES ARE KEPT
timed-places : (o : Origin) → IsOrigin o → (values : List Reading) (d e : Devices) → AreTimedOn o.found values d e → PlacesStay o d e
timed-places o origin values d e h c valid y left =
    let was = (h c (valid-found o origin c valid)).1 y left in
    (was.0, was.1, file-ring (sizes_in o c) was.0 y (subst (λ (x : List ℕ). file_bytes (own_sizes x) 0x0506 y ≡ file_bytes (own_sizes x) 0x0506 was.0) (origin.image c) was.4))

-- with readings of these spans alone, each as its minute ended
pub timed-stays : (o : Origin) → IsOrigin o → (values : List Reading) (d e : Devices) → AreTimedOn o.found values d e → (spans : List SpanFrom) → ((r : Reading) → Contains values r → IsReadingAtEnd spans r) → CardsStay o spans d e
timed-stays o origin values d e h spans reads = record { places = timed-places o origin values d e h; vehicles = vehicles; sessions = sessions }
  where
    vehicles : VehiclesGo o spans NoOtherComes d e
    vehicles c valid y left =
        let was = (h c (valid-found o origin c valid)).2 y left in
        (was.0, was.1, goes-more (sizes_in o c) (λ r. Contains values r) (IsReadingOf spans (NoOtherComes c)) (λ r at. inl (reads r at)) was.0 y (subst (λ (x : List ℕ). GoesMeasured (own_sizes x) (λ r. Contains values r) was.0 y) (origin.image c) was.2))

    sessions : SessionsGo o NoOtherComes d e
    sessions c valid y left =
        let was = (h c (valid-found o origin c valid)).1 y left in
        (was.0, was.1, file-session (sizes_in o c) (NoOtherComes c) was.0 y (subst (λ (x : List ℕ). file_bytes (own_sizes x) 0x0507 y ≡ file_bytes (own_sizes x) 0x0507 was.0) (origin.image c) was.3))

-- ---- A SESSION IS CLOSED, or was about to be
closes-places : (o : Origin) (w : RunLedger) (cards : Cards) (c : Card) (U X Z : State) (Y : State) → IsOrigin o → AreFoundCards o.found cards → IsCoherent X → LARGEST_IMAGE ≤ X.size → (a : Accepted) (act : Activity) → session_of cards c ≡ Some a → DevicesPowered o.found w cards (arranged c U X Z) →
    LeavesOnly X Y (λ i n. IsSession a.session i → IsCardClosing a.session act i n) → IsOwnValid (card_image o.recording c) → LeavesRing (card_image o.recording c) X Y
closes-places o w cards c U X Z Y origin found whole size a act has p run valid y left =
    let there : IsOwnValid (found_of o.found c).image = valid-found o origin c valid in
    let one : CardLit o.found w.book (w.standing c) (w.hands c) (w.firsts c) (w.brought c) (Some a) c U X = subst (λ (q : Option Accepted). CardLit o.found w.book (w.standing c) (w.hands c) (w.firsts c) (w.brought c) q c U X) has ((parts-of o.found w cards c U X Z p).mine there) in
    let on : SessionIsOnCard (found_of o.found c) (w.hands c) one.goes.has (w.standing c) a.session X = one.goes.goes.0 in
    let sizes : a.session.application ≡ own_sizes (card_image o.recording c) = on.sizes ∙ ap own_sizes (origin.image c) in
    let fits = largest_image a.session.application (subst IsApplication (sym on.sizes) (found.sizes c there)) in
    ⊎_elim
    (λ before. (y, before, refl))
    (λ (x, is, closes).
    let long = whole.sized x is in (
      x,
      whole.is_left x is,
      file-ring (sizes_in o c) x y (subst (λ (app : Application). file_bytes app 0x0506 y ≡ file_bytes app 0x0506 x) sizes
          (closing-places a.session act x y (omega (arith, fits, size, long, use_inside a.session.application)) (closes (at_image (IsSession a.session) is on.session)))),
    ))
    (run.now y left)

pub closing-stay : {C : Type 0} (state : C → State) (o : Origin) (done : List TraceSecond) (s : TraceSecond) (at : Phase) (waits : List Visit) (rest : List Minute) (run : Run) (out : Outcome) (c : Card) (U V Z : State) (x y : C) → RunWithin o done s at waits rest run out (arranged c U (state x) Z) →
    IsCoherent (state x) → LARGEST_IMAGE ≤ (state x).size → IfSome (session_of run.keeper.cabin.cards c) (λ s. (act : Activity) × LeavesOnly (state x) (state y) (λ i n. IsSession s.session i → IsCardClosing s.session act i n)) →
    (session_of run.keeper.cabin.cards c ≡ None → y ≡ x) → PlacesStay o (arranged c U (state x) Z) (arranged c V (state y) Z)
closing-stay {C = C} state o done s at waits rest run out c U V Z x y w whole size left still q0 valid =
    each c U V (state x) (state y) Z (λ (q : Card) (a b : State). IsOwnValid (card_image o.recording q) → LeavesRing (card_image o.recording q) a b)
    (λ v. by v (session_of run.keeper.cabin.cards c) refl left) (λ v z there. (z, there, refl)) q0 valid
  where
    by : IsOwnValid (card_image o.recording c) → (q : Option Accepted) → session_of run.keeper.cabin.cards c ≡ q → IfSome q (λ s. (act : Activity) × LeavesOnly (state x) (state y) (λ i n. IsSession s.session i → IsCardClosing s.session act i n)) → LeavesRing (card_image o.recording c) (state x) (state y)
    by v None is h = subst (λ (z : C). LeavesRing (card_image o.recording c) (state x) (state z)) (sym (still is)) (λ z there. (z, there, refl))
    by v (Some a) is h = closes-places o _ run.keeper.cabin.cards c U (state x) Z (state y) w.origin w.within.found whole size a h.0 is w.within.powered h.1 v

-- what images of a card go on so
abbrev pub ImagesGo : (spans : List SpanFrom) → (May : ℕ → Type 0) → (start : List ℕ) → (old new : State) → Type 0
ImagesGo spans May start old new = (y : List ℕ) → new.may_leave y → (x : List ℕ) × old.may_leave x × GoesByReadings spans May start x y

closes-vehicles : (o : Origin) (spans : List SpanFrom) (May : ℕ → Type 0) (w : RunLedger) (cards : Cards) (c : Card) (U X Z : State) (Y : State) → IsOrigin o → AreFoundCards o.found cards → IsCoherent X → LARGEST_IMAGE ≤ X.size → (a : Accepted) (act : Activity) → session_of cards c ≡ Some a → DevicesPowered o.found w cards (arranged c U X Z) →
    LeavesOnly X Y (λ i n. IsSession a.session i → IsCardClosing a.session act i n) → IsOwnValid (card_image o.recording c) → ImagesGo spans May (card_image o.recording c) X Y
closes-vehicles o spans May w cards c U X Z Y origin found whole size a act has p run valid y left =
    let there : IsOwnValid (found_of o.found c).image = valid-found o origin c valid in
    let one : CardLit o.found w.book (w.standing c) (w.hands c) (w.firsts c) (w.brought c) (Some a) c U X = subst (λ (q : Option Accepted). CardLit o.found w.book (w.standing c) (w.hands c) (w.firsts c) (w.brought c) q c U X) has ((parts-of o.found w cards c U X Z p).mine there) in
    let on : SessionIsOnCard (found_of o.found c) (w.hands c) one.goes.has (w.standing c) a.session X = one.goes.goes.0 in
    let sizes : a.session.application ≡ own_sizes (card_image o.recording c) = on.sizes ∙ ap own_sizes (origin.image c) in
    let sound : IsApplication a.session.application = subst IsApplication (sym on.sizes) (found.sizes c there) in
    let fits = largest_image a.session.application sound in
    ⊎_elim
    (λ before. (y, before, goes-itself (sizes_in o c) (IsReadingOf spans May) y))
    (λ (x, is, closes).
    let long = whole.sized x is in (
      x,
      whole.is_left x is,
      subst (λ (app : Application). GoesMeasured app (IsReadingOf spans May) x y) sizes
          (close-goes (IsReadingOf spans May) a.session act x y sound (omega (arith, fits, size, long)) (closes (at_image (IsSession a.session) is on.session))),
    ))
    (run.now y left)

closing-go : {C : Type 0} (state : C → State) (o : Origin) (spans : List SpanFrom) (May : Card → ℕ → Type 0) (done : List TraceSecond) (s : TraceSecond) (at : Phase) (waits : List Visit) (rest : List Minute) (run : Run) (out : Outcome) (c : Card) (U V Z : State) (x y : C) → RunWithin o done s at waits rest run out (arranged c U (state x) Z) →
    IsCoherent (state x) → LARGEST_IMAGE ≤ (state x).size → IfSome (session_of run.keeper.cabin.cards c) (λ s. (act : Activity) × LeavesOnly (state x) (state y) (λ i n. IsSession s.session i → IsCardClosing s.session act i n)) →
    (session_of run.keeper.cabin.cards c ≡ None → y ≡ x) → VehiclesGo o spans May (arranged c U (state x) Z) (arranged c V (state y) Z)
closing-go {C = C} state o spans May done s at waits rest run out c U V Z x y w whole size left still q0 valid =
    each c U V (state x) (state y) Z (λ (q : Card) (a b : State). IsOwnValid (card_image o.recording q) → ImagesGo spans (May q) (card_image o.recording q) a b)
    (λ v. by v (session_of run.keeper.cabin.cards c) refl left) (λ v z there. (z, there, goes-itself (sizes_in o (other c)) (IsReadingOf spans (May (other c))) z)) q0 valid
  where
    by : IsOwnValid (card_image o.recording c) → (q : Option Accepted) → session_of run.keeper.cabin.cards c ≡ q → IfSome q (λ s. (act : Activity) × LeavesOnly (state x) (state y) (λ i n. IsSession s.session i → IsCardClosing s.session act i n)) → ImagesGo spans (May c) (card_image o.recording c) (state x) (state y)
    by v None is h = subst (λ (z : C). ImagesGo spans (May c) (card_image o.recording c) (state x) (state z)) (sym (still is)) (λ z there. (z, there, goes-itself (sizes_in o c) (IsReadingOf spans (May c)) z))
    by v (Some a) is h = closes-vehicles o spans (May c) _ run.keeper.cabin.cards c U (state x) Z (state y) w.origin w.within.found whole size a h.0 is w.within.powered h.1 v

-- and its session goes on
abbrev SessionGo : (start : List ℕ) → Card → (old new : State) → Type 0
SessionGo start c old new = (y : List ℕ) → new.may_leave y → (x : List ℕ) × old.may_leave x × SessionGoes (own_sizes start) (NoOtherComes c) x y

-- or is ended, where it had one
abbrev SessionEnds : (start : List ℕ) → (May : ℕ → Type 0) → (old new : State) → Type 0
SessionEnds start May old new = (y : List ℕ) → new.may_leave y → (x : List ℕ) × old.may_leave x × SessionGoes (own_sizes start) May x y

closes-session : (o : Origin) (w : RunLedger) (cards : Cards) (c : Card) (U X Z : State) (Y : State) → IsOrigin o → AreFoundCards o.found cards → IsCoherent X → LARGEST_IMAGE ≤ X.size → (a : Accepted) (act : Activity) → session_of cards c ≡ Some a → DevicesPowered o.found w cards (arranged c U X Z) →
    LeavesOnly X Y (λ i n. IsSession a.session i → IsCardClosing a.session act i n) → IsOwnValid (card_image o.recording c) → SessionEnds (card_image o.recording c) IsNone X Y
closes-session o w cards c U X Z Y origin found whole size a act has p run valid y left =
    let there : IsOwnValid (found_of o.found c).image = valid-found o origin c valid in
    let one : CardLit o.found w.book (w.standing c) (w.hands c) (w.firsts c) (w.brought c) (Some a) c U X = subst (λ (q : Option Accepted). CardLit o.found w.book (w.standing c) (w.hands c) (w.firsts c) (w.brought c) q c U X) has ((parts-of o.found w cards c U X Z p).mine there) in
    let on : SessionIsOnCard (found_of o.found c) (w.hands c) one.goes.has (w.standing c) a.session X = one.goes.goes.0 in
    let sizes : a.session.application ≡ own_sizes (card_image o.recording c) = on.sizes ∙ ap own_sizes (origin.image c) in
    let fits = largest_image a.session.application (subst IsApplication (sym on.sizes) (found.sizes c there)) in
    ⊎_elim
    (λ before. (y, before, session-itself (sizes_in o c) IsNone y))
    (λ (x, is, closes).
    let long = whole.sized x is in (
      x,
      whole.is_left x is,
      subst (λ (app : Application). SessionGoes app IsNone x y) sizes
          (close-session a.session act x y (omega (arith, fits, size, long)) (closes (at_image (IsSession a.session) is on.session))),
    ))
    (run.now y left)

itself-card : (x : Card) → same_card x x ≡ true
itself-card A = refl
itself-card B = refl

closing-session : {C : Type 0} (state : C → State) (o : Origin) (done : List TraceSecond) (s : TraceSecond) (at : Phase) (waits : List Visit) (rest : List Minute) (run : Run) (out : Outcome) (c : Card) (U V Z : State) (x y : C) → RunWithin o done s at waits rest run out (arranged c U (state x) Z) →
    IsCoherent (state x) → LARGEST_IMAGE ≤ (state x).size → IfSome (session_of run.keeper.cabin.cards c) (λ s. (act : Activity) × LeavesOnly (state x) (state y) (λ i n. IsSession s.session i → IsCardClosing s.session act i n)) →
    (session_of run.keeper.cabin.cards c ≡ None → y ≡ x) → SessionsGo o (EndsIf (is_some (session_of run.keeper.cabin.cards c)) c) (arranged c U (state x) Z) (arranged c V (state y) Z)
closing-session {C = C} state o done s at waits rest run out c U V Z x y w whole size left still q0 valid =
    each c U V (state x) (state y) Z (λ (q : Card) (a b : State). IsOwnValid (card_image o.recording q) → SessionEnds (card_image o.recording q) (EndsIf (is_some (session_of run.keeper.cabin.cards c)) c q) a b)
    (λ v. by v (session_of run.keeper.cabin.cards c) refl left) (λ v z there. (z, there, session-itself (sizes_in o (other c)) (EndsIf (is_some (session_of run.keeper.cabin.cards c)) c (other c)) z)) q0 valid
  where
    by : IsOwnValid (card_image o.recording c) → (q : Option Accepted) → session_of run.keeper.cabin.cards c ≡ q → IfSome q (λ s. (act : Activity) × LeavesOnly (state x) (state y) (λ i n. IsSession s.session i → IsCardClosing s.session act i n)) → SessionEnds (card_image o.recording c) (EndsIf (is_some (session_of run.keeper.cabin.cards c)) c c) (state x) (state y)
    by v None is h = subst (λ (z : C). SessionEnds (card_image o.recording c) (EndsIf (is_some (session_of run.keeper.cabin.cards c)) c c) (state x) (state z)) (sym (still is)) (λ z there. (z, there, session-itself (sizes_in o c) (EndsIf (is_some (session_of run.keeper.cabin.cards c)) c c) z))
    by v (Some a) is h = λ z there.
        let was = closes-session o _ run.keeper.cabin.cards c U (state x) Z (state y) w.origin w.within.found whole size a h.0 is w.within.powered h.1 v z there in
        (was.0, was.1, session-more (sizes_in o c) IsNone (EndsIf (is_some (session_of run.keeper.cabin.cards c)) c c) (λ t none. (ap (λ (q : Option Accepted). is_some q) is, (itself-card c, none))) was.0 z was.2)

-- WHERE IT IS CLOSED each image tells of none
pub closed-none : (o : Origin) (w : RunLedger) (cards : Cards) (c : Card) (U X Z Y : State) → IsOrigin o → AreFoundCards o.found cards → IsCoherent X → LARGEST_IMAGE ≤ X.size → (a : Accepted) (act : Activity) → session_of cards c ≡ Some a → DevicesPowered o.found w cards (arranged c U X Z) →
    ClosesCard Closed (Some a) act X Y → IsOwnValid (card_image o.recording c) → (y : List ℕ) → Y.may_leave y → session_time (sizes_in o c) y ≡ 0
closed-none o w cards c U X Z Y origin found whole size a act has p closes valid y left =
    let there : IsOwnValid (found_of o.found c).image = valid-found o origin c valid in
    let one : CardLit o.found w.book (w.standing c) (w.hands c) (w.firsts c) (w.brought c) (Some a) c U X = subst (λ (q : Option Accepted). CardLit o.found w.book (w.standing c) (w.hands c) (w.firsts c) (w.brought c) q c U X) has ((parts-of o.found w cards c U X Z p).mine there) in
    let on : SessionIsOnCard (found_of o.found c) (w.hands c) one.goes.has (w.standing c) a.session X = one.goes.goes.0 in
    let sizes : a.session.application ≡ own_sizes (card_image o.recording c) = on.sizes ∙ ap own_sizes (origin.image c) in
    let fits = largest_image a.session.application (subst IsApplication (sym on.sizes) (found.sizes c there)) in
    let was = closes y left in
    let long = whole.sized was.0 was.1 in
    subst (λ (app : Application). session_time app y ≡ 0) sizes
    (closed_session a.session act was.0 y (omega (arith, fits, size, long)) (was.2 (at_image (IsSession a.session) was.1 on.session)))

pub closing-stays : {C : Type 0} (state : C → State) (o : Origin) (spans : List SpanFrom) (done : List TraceSecond) (s : TraceSecond) (at : Phase) (waits : List Visit) (rest : List Minute) (run : Run) (out : Outcome) (c : Card) (U V Z : State) (x y : C) → RunWithin o done s at waits rest run out (arranged c U (state x) Z) →
    IsCoherent (state x) → LARGEST_IMAGE ≤ (state x).size → IfSome (session_of run.keeper.cabin.cards c) (λ s. (act : Activity) × LeavesOnly (state x) (state y) (λ i n. IsSession s.session i → IsCardClosing s.session act i n)) →
    (session_of run.keeper.cabin.cards c ≡ None → y ≡ x) → CardsGo o spans (EndsIf (is_some (session_of run.keeper.cabin.cards c)) c) (arranged c U (state x) Z) (arranged c V (state y) Z)
closing-stays state o spans done s at waits rest run out c U V Z x y w whole size left still =
    record {
      places = closing-stay state o done s at waits rest run out c U V Z x y w whole size left still;
      vehicles = closing-go state o spans (EndsIf (is_some (session_of run.keeper.cabin.cards c)) c) done s at waits rest run out c U V Z x y w whole size left still;
      sessions = closing-session state o done s at waits rest run out c U V Z x y w whole size left still;
    }

-- ---- AN EVENT IS NOTED

-- no call
pub places-self : (session : Option Accepted) (X : State) → LeavesPlaces session X X
places-self None X = λ c left. left
places-self (Some a) X = λ c left. (c, left, refl, refl, refl, refl)

-- by the session that a card has
pub event-leaves : (c : Card) (cards : Cards) (app : Application) (event : CardEvent) (chip : CardState) (X Y : State) → IsCoherent X → CardMayBeCalled (known_of cards c) chip X → (known_of cards c).sizes ≡ Ok app → is_some (session_of cards c) ≡ true → LeavesOnly X Y (IsNotingEvent app event) → LeavesPlaces (session_of cards c) X Y
event-leaves c cards app event chip X Y whole ready told some run = by c some ready told
  where
    one : (a : Accepted) → app ≡ a.session.application → LeavesPlaces (Some a) X Y
    one a same y left = ⊎_elim
        (λ was. (y, was, refl, refl, refl, refl))
        (λ here. (
          here.0,
          whole.is_left here.0 here.1,
          subst (λ (p : Application). file_bytes p 0x0506 y ≡ file_bytes p 0x0506 here.0) same (event-places app here.0 y event here.2),
          subst (λ (p : Application). HaveSameVehicles p here.0 y) same (event-vehicles app here.0 y event here.2),
          subst (λ (p : Application). current_use p y ≡ current_use p here.0) same (note-use app here.0 y (inl (event, here.2))),
          subst (λ (p : Application). HaveSameDays p here.0 y) same (event-days app here.0 y event here.2),
        ))
        (run.now y left)

    by : (c : Card) → is_some (session_of cards c) ≡ true → CardMayBeCalled (known_of cards c) chip X → (known_of cards c).sizes ≡ Ok app → LeavesPlaces (session_of cards c) X Y
    by A s ready told = at_a cards.a.accepted refl s
      where
        at_a : (q : Option Accepted) → cards.a.accepted ≡ q → is_some q ≡ true → LeavesPlaces q X Y
        at_a None is none = absurd (let wrong : false ≡ true = none in cc)
        at_a (Some a) is has =
            let sized = subst (λ (p : Option Accepted). IfSome p (λ a. cards.a.sizes ≡ Ok a.session.application)) is ready.is_known.sized in
            let same : app ≡ a.session.application = cc in
            one a same
    by B s ready told = at_b cards.b.accepted refl s
      where
        at_b : (q : Option Accepted) → cards.b.accepted ≡ q → is_some q ≡ true → LeavesPlaces q X Y
        at_b None is none = absurd (let wrong : false ≡ true = none in cc)
        at_b (Some a) is has =
            let sized = subst (λ (p : Option Accepted). IfSome p (λ a. cards.b.sizes ≡ Ok a.session.application)) is ready.is_known.sized in
            let same : app ≡ a.session.application = cc in
            one a same

-- one after another, where the session is as it was, or gone
pub leaves-then : (q r : Option Accepted) (X Y Z : State) → (r ≡ q) ⊎ (r ≡ None) → LeavesPlaces q X Y → LeavesPlaces r Y Z → LeavesPlaces q X Z
leaves-then None None X Y Z goes first next = λ c left. first c (next c left)
leaves-then None (Some b) X Y Z goes first next = absurd (⊎_elim (λ is. let wrong : Some b ≡ None = is in cc) (λ is. let wrong : Some b ≡ None = is in cc) goes)
leaves-then (Some a) None X Y Z goes first next = λ c left. first c (next c left)
leaves-then (Some a) (Some b) X Y Z goes first next = λ c left.
    let two = next c left in
    let one = first two.0 two.1 in
    let sizes : b.session.application ≡ a.session.application = ⊎_elim (λ is. alike is) (λ is. absurd (let wrong : Some b ≡ None = is in cc)) goes in (
      one.0,
      one.1,
      subst (λ (p : Application). file_bytes p 0x0506 c ≡ file_bytes p 0x0506 two.0) sizes two.2 ∙ one.2,
      subst (λ (p : Application). HaveSameVehicles p two.0 c) sizes two.3 ∙ one.3,
      subst (λ (p : Application). current_use p c ≡ current_use p two.0) sizes two.4 ∙ one.4,
      subst (λ (p : Application). HaveSameDays p two.0 c) sizes two.5 ∙ one.5,
    )
  where
    alike : Some b ≡ Some a → b.session.application ≡ a.session.application
    alike is = let same : b ≡ a = cc in ap (λ (q : Accepted). q.session.application) same

-- of the cards of a run in a second
pub leave-stay : (o : Origin) (done : List TraceSecond) (s : TraceSecond) (at : Phase) (waits : List Visit) (rest : List Minute) (run : Run) (out : Outcome) (d e : Devices) → RunWithin o done s at waits rest run out d → LeavePlaces run.keeper.cabin.cards d e → PlacesStay o d e
leave-stay o done s at waits rest run out d e w leaves c valid = by (session_of run.keeper.cabin.cards c) refl (leaves c)
  where
    by : (q : Option Accepted) → session_of run.keeper.cabin.cards c ≡ q → LeavesPlaces q (card_of d c) (card_of e c) → LeavesRing (card_image o.recording c) (card_of d c) (card_of e c)
    by None is h = λ y left. (y, h y left, refl)
    by (Some a) is h = λ y left.
        let was = h y left in
        (was.0, was.1, file-ring (sizes_in o c) was.0 y (subst (λ (app : Application). file_bytes app 0x0506 y ≡ file_bytes app 0x0506 was.0) (session-sizes o done s at waits rest run out d w c valid a is) was.2))

-- and their vehicle entries are the same
leave-go : (o : Origin) (spans : List SpanFrom) (done : List TraceSecond) (s : TraceSecond) (at : Phase) (waits : List Visit) (rest : List Minute) (run : Run) (out : Outcome) (d e : Devices) → RunWithin o done s at waits rest run out d → LeavePlaces run.keeper.cabin.cards d e → VehiclesGo o spans NoOtherComes d e
leave-go o spans done s at waits rest run out d e w leaves c valid = by (session_of run.keeper.cabin.cards c) refl (leaves c)
  where
    sound : IsApplication (sizes_in o c)
    sound = subst (λ (x : List ℕ). IsApplication (own_sizes x)) (w.origin.image c) (w.within.found.sizes c (valid-found o w.origin c valid))

    by : (q : Option Accepted) → session_of run.keeper.cabin.cards c ≡ q → LeavesPlaces q (card_of d c) (card_of e c) → ImagesGo spans (NoOtherComes c) (card_image o.recording c) (card_of d c) (card_of e c)
    by None is h = λ y left. (y, h y left, goes-itself (sizes_in o c) (IsReadingOf spans (NoOtherComes c)) y)
    by (Some a) is h = λ y left.
        let was = h y left in
        let sizes = session-sizes o done s at waits rest run out d w c valid a is in
        (was.0, was.1, bytes-go (sizes_in o c) (IsReadingOf spans (NoOtherComes c)) sound was.0 y (subst (λ (app : Application). HaveSameDays app was.0 y) sizes was.5) (subst (λ (app : Application). HaveSameVehicles app was.0 y) sizes was.3))

-- and their sessions
leave-sessions : (o : Origin) (done : List TraceSecond) (s : TraceSecond) (at : Phase) (waits : List Visit) (rest : List Minute) (run : Run) (out : Outcome) (d e : Devices) → RunWithin o done s at waits rest run out d → LeavePlaces run.keeper.cabin.cards d e → SessionsGo o NoOtherComes d e
leave-sessions o done s at waits rest run out d e w leaves c valid = by (session_of run.keeper.cabin.cards c) refl (leaves c)
  where
    by : (q : Option Accepted) → session_of run.keeper.cabin.cards c ≡ q → LeavesPlaces q (card_of d c) (card_of e c) → SessionGo (card_image o.recording c) c (card_of d c) (card_of e c)
    by None is h = λ y left. (y, h y left, session-itself (sizes_in o c) (NoOtherComes c) y)
    by (Some a) is h = λ y left.
        let was = h y left in
        (was.0, was.1, session-same (sizes_in o c) (NoOtherComes c) was.0 y (subst (λ (app : Application). current_use app y ≡ current_use app was.0) (session-sizes o done s at waits rest run out d w c valid a is) was.4))

pub leave-stays : (o : Origin) (spans : List SpanFrom) (done : List TraceSecond) (s : TraceSecond) (at : Phase) (waits : List Visit) (rest : List Minute) (run : Run) (out : Outcome) (d e : Devices) → RunWithin o done s at waits rest run out d → LeavePlaces run.keeper.cabin.cards d e → CardsStay o spans d e
leave-stays o spans done s at waits rest run out d e w leaves = record { places = leave-stay o done s at waits rest run out d e w leaves; vehicles = leave-go o spans done s at waits rest run out d e w leaves; sessions = leave-sessions o done s at waits rest run out d e w leaves }

-- ---- A PLACE IS NOTED

-- the vehicle entries lie beside it
place-same : (app : Application) (entry : PlaceEntry) (x y : List ℕ) → (y ≡ x) ⊎ IsNotingPlace app entry x y → HaveSameVehicles app x y
place-same app entry x y moment = ⊎_elim
    (λ same. ap (λ (l : List ℕ). bytes_at l (vehicle_ring app).base (ring_size (vehicle_ring app))) same)
    (λ noting. place-vehicles app x y noting.outside)
    moment

-- and its days
place-same_days : (app : Application) (entry : PlaceEntry) (x y : List ℕ) → (y ≡ x) ⊎ IsNotingPlace app entry x y → HaveSameDays app x y
place-same_days app entry x y moment = ⊎_elim
    (λ same. ap (λ (l : List ℕ). bytes_at l (day_string app).base (4 + (day_string app).size)) same)
    (λ noting. place-days app x y noting.outside)
    moment

-- no call
pub may-unbegun : (app : Application) (entry : PlaceEntry) (X : State) → MayHavePlace app entry X X
may-unbegun app entry X y left = (y, left, inl refl)

-- so they go on, of the card that entered it and of the other
pub place-go : (o : Origin) (spans : List SpanFrom) (done : List TraceSecond) (s : TraceSecond) (at : Phase) (waits : List Visit) (rest : List Minute) (run : Run) (out : Outcome) (d e : Devices) → RunWithin o done s at waits rest run out d → (card : Card) (entry : PlaceEntry) → is_some (session_of run.keeper.cabin.cards card) ≡ true →
    ((a : Accepted) → session_of run.keeper.cabin.cards card ≡ Some a → MayHavePlace a.session.application entry (card_of d card) (card_of e card)) → ((c : Card) → same_card card c ≡ false → (y : List ℕ) → (card_of e c).may_leave y → (card_of d c).may_leave y) → VehiclesGo o spans NoOtherComes d e
place-go o spans done s at waits rest run out d e w card entry some call others c valid = ⊎_elim
    (λ same. subst (λ (q : Card). IsOwnValid (card_image o.recording q) → ImagesGo spans (NoOtherComes q) (card_image o.recording q) (card_of d q) (card_of e q)) (alike card c same) own valid)
    (λ apart_. λ y left. (y, others c apart_ y left, goes-itself (sizes_in o c) (IsReadingOf spans (NoOtherComes c)) y))
    (this-or card c)
  where
    alike : (x y : Card) → same_card x y ≡ true → x ≡ y
    alike A A is = refl
    alike B B is = refl
    alike A B is = absurd (let wrong : false ≡ true = is in cc)
    alike B A is = absurd (let wrong : false ≡ true = is in cc)

    own : IsOwnValid (card_image o.recording card) → ImagesGo spans (NoOtherComes card) (card_image o.recording card) (card_of d card) (card_of e card)
    own there = by (session_of run.keeper.cabin.cards card) refl some
      where
        sound : IsApplication (sizes_in o card)
        sound = subst (λ (x : List ℕ). IsApplication (own_sizes x)) (w.origin.image card) (w.within.found.sizes card (valid-found o w.origin card there))

        by : (q : Option Accepted) → session_of run.keeper.cabin.cards card ≡ q → is_some q ≡ true → ImagesGo spans (NoOtherComes card) (card_image o.recording card) (card_of d card) (card_of e card)
        by None is none = absurd (let wrong : false ≡ true = none in cc)
        by (Some a) is has = λ y left.
            let was = call a is y left in
            let sizes = session-sizes o done s at waits rest run out d w card there a is in (
              was.0,
              was.1,
              bytes-go (sizes_in o card) (IsReadingOf spans (NoOtherComes card)) sound was.0 y
                  (subst (λ (app : Application). HaveSameDays app was.0 y) sizes (place-same_days a.session.application entry was.0 y was.2))
                  (subst (λ (app : Application). HaveSameVehicles app was.0 y) sizes (place-same a.session.application entry was.0 y was.2)),
            )

-- and their sessions are the same
place-use : (app : Application) (entry : PlaceEntry) (x y : List ℕ) → (y ≡ x) ⊎ IsNotingPlace app entry x y → current_use app y ≡ current_use app x
place-use app entry x y moment = ⊎_elim (λ same. ap (λ (l : List ℕ). current_use app l) same) (λ noting. note-use app x y (inr (entry, noting))) moment

pub place-sessions : (o : Origin) (done : List TraceSecond) (s : TraceSecond) (at : Phase) (waits : List Visit) (rest : List Minute) (run : Run) (out : Outcome) (d e : Devices) → RunWithin o done s at waits rest run out d → (card : Card) (entry : PlaceEntry) → is_some (session_of run.keeper.cabin.cards card) ≡ true →
    ((a : Accepted) → session_of run.keeper.cabin.cards card ≡ Some a → MayHavePlace a.session.application entry (card_of d card) (card_of e card)) → ((c : Card) → same_card card c ≡ false → (y : List ℕ) → (card_of e c).may_leave y → (card_of d c).may_leave y) → SessionsGo o NoOtherComes d e
place-sessions o done s at waits rest run out d e w card entry some call others c valid = ⊎_elim
    (λ same. subst (λ (q : Card). IsOwnValid (card_image o.recording q) → SessionGo (card_image o.recording q) q (card_of d q) (card_of e q)) (alike card c same) own valid)
    (λ apart_. λ y left. (y, others c apart_ y left, session-itself (sizes_in o c) (NoOtherComes c) y))
    (this-or card c)
  where
    alike : (x y : Card) → same_card x y ≡ true → x ≡ y
    alike A A is = refl
    alike B B is = refl
    alike A B is = absurd (let wrong : false ≡ true = is in cc)
    alike B A is = absurd (let wrong : false ≡ true = is in cc)

    own : IsOwnValid (card_image o.recording card) → SessionGo (card_image o.recording card) card (card_of d card) (card_of e card)
    own there = by (session_of run.keeper.cabin.cards card) refl some
      where
        by : (q : Option Accepted) → session_of run.keeper.cabin.cards card ≡ q → is_some q ≡ true → SessionGo (card_image o.recording card) card (card_of d card) (card_of e card)
        by None is none = absurd (let wrong : false ≡ true = none in cc)
        by (Some a) is has = λ y left.
            let was = call a is y left in
            (was.0, was.1, session-same (sizes_in o card) (NoOtherComes card) was.0 y (subst (λ (app : Application). current_use app y ≡ current_use app was.0) (session-sizes o done s at waits rest run out d w card there a is) (place-use a.session.application entry was.0 y was.2)))

-- how wide its entry is
pub entry-wide : (v : PlaceEntry) → length (place_bytes v) ≡ place_width
entry-wide v = omega arith

-- by the session that a card has
pub may-take : (c : Card) (cards : Cards) (app : Application) (entry : PlaceEntry) (chip : CardState) (X Y : State) → IsCoherent X → CardMayBeCalled (known_of cards c) chip X → (known_of cards c).sizes ≡ Ok app → LeavesOnly X Y (IsNotingPlace app entry) → MayTakePlace (session_of cards c) entry X Y
may-take c cards app entry chip X Y whole ready told run = by c ready told
  where
    one : (a : Accepted) → app ≡ a.session.application → MayHavePlace a.session.application entry X Y
    one a same y left = ⊎_elim
        (λ was. (y, was, inl refl))
        (λ here. (here.0, whole.is_left here.0 here.1, inr (subst (λ (p : Application). IsNotingPlace p entry here.0 y) same here.2)))
        (run.now y left)

    by : (c : Card) → CardMayBeCalled (known_of cards c) chip X → (known_of cards c).sizes ≡ Ok app → MayTakePlace (session_of cards c) entry X Y
    by A ready told = at_a cards.a.accepted refl
      where
        at_a : (q : Option Accepted) → cards.a.accepted ≡ q → MayTakePlace q entry X Y
        at_a None is = tt
        at_a (Some a) is =
            let sized = subst (λ (p : Option Accepted). IfSome p (λ a. cards.a.sizes ≡ Ok a.session.application)) is ready.is_known.sized in
            let same : app ≡ a.session.application = cc in
            one a same
    by B ready told = at_b cards.b.accepted refl
      where
        at_b : (q : Option Accepted) → cards.b.accepted ≡ q → MayTakePlace q entry X Y
        at_b None is = tt
        at_b (Some a) is =
            let sized = subst (λ (p : Option Accepted). IfSome p (λ a. cards.b.sizes ≡ Ok a.session.application)) is ready.is_known.sized in
            let same : app ≡ a.session.application = cc in
            one a same

-- behind a call, by whether it failed, on the card or on the unit before: it stands, or may stand
abbrev pub PlaceCall : (fell failed : Bool) → Application → PlaceEntry → (card card_after : State) → Type 0
PlaceCall fell failed app entry card card_after = (y : List ℕ) → card_after.may_leave y → (x : List ℕ) × card.may_leave x
    × (PointsInside (place_ring app) x → IsPlaceNoted app entry x y ⊎ (((fell ≡ true) ⊎ (failed ≡ true)) × ((y ≡ x) ⊎ IsNotingPlace app entry x y)))

-- the unit failed before
pub call-unbegun : (app : Application) (entry : PlaceEntry) (X : State) → PlaceCall false true app entry X X
call-unbegun app entry X y left = (y, left, λ points. inr (inr refl, inl refl))

-- on the card
pub call-made : (fell failed : Bool) (a : Accepted) (after : Option Accepted) (entry : PlaceEntry) (X Y : State) → (fell ≡ false → after ≡ Some a) → PlaceOn (Some a) after false entry X Y → MayHavePlace a.session.application entry X Y → PlaceCall fell failed a.session.application entry X Y
call-made false failed a after entry X Y stays on may y left =
    let has = subst (λ (q : Option Accepted). PlaceOn (Some a) q false entry X Y) (stays refl) on in
    let was = has y left in
    (was.0, was.1, λ points. inl (was.2 points))
call-made true failed a after entry X Y stays on may y left =
    let was = may y left in
    (was.0, was.1, λ points. inr (inl refl, was.2))

-- the card that entered it
abbrev Taken : Origin → RunLog → PlaceNote → PlaceEntry → (d e : Devices) → Card → Type 0
Taken o log p entry d e k =
    IsOwnValid (card_image o.recording k) → (y : List ℕ) → (card_of e k).may_leave y → (x : List ℕ) × (card_of d k).may_leave x × (PointsInside (places_in (card_image o.recording k)) x → TakesPlace log p (place_bytes entry) (card_image o.recording k) x y)

-- it is so of the cards of a run
pub place-taken : (o : Origin) (log : RunLog) (p : PlaceNote) (entry : PlaceEntry) (fell failed : Bool) (d e : Devices) → (fell ≡ true → has_call_failed_in log p.second ≡ true) → (failed ≡ true → has_call_failed_in log p.second ≡ true)
    → (IsOwnValid (card_image o.recording p.card) → PlaceCall fell failed (sizes_in o p.card) entry (card_of d p.card) (card_of e p.card)) → ((c : Card) → same_card p.card c ≡ false → (y : List ℕ) → (card_of e c).may_leave y → (card_of d c).may_leave y)
    → PlaceIsTaken o log p (place_bytes entry) d e
place-taken o log p entry fell failed d e told_fell told_failed call others c valid = ⊎_elim
    (λ same. inr (same, subst (Taken o log p entry d e) (alike p.card c same) (λ v y left. by y (call v y left)) valid))
    (λ apart_. inl (apart_, λ y left. (y, others c apart_ y left, refl)))
    (this-or p.card c)
  where
    alike : (x y : Card) → same_card x y ≡ true → x ≡ y
    alike A A is = refl
    alike B B is = refl
    alike A B is = absurd (let wrong : false ≡ true = is in cc)
    alike B A is = absurd (let wrong : false ≡ true = is in cc)

    by : (y : List ℕ) → ((x : List ℕ) × (card_of d p.card).may_leave x × (PointsInside (place_ring (sizes_in o p.card)) x → IsPlaceNoted (sizes_in o p.card) entry x y ⊎ (((fell ≡ true) ⊎ (failed ≡ true)) × ((y ≡ x) ⊎ IsNotingPlace (sizes_in o p.card) entry x y))))
        → (x : List ℕ) × (card_of d p.card).may_leave x × (PointsInside (places_in (card_image o.recording p.card)) x → TakesPlace log p (place_bytes entry) (card_image o.recording p.card) x y)
    by y w = (w.0, w.1, λ points. ⊎_elim (λ stands. inl stands) (λ may. inr (⊎_elim told_fell told_failed may.0, may.1)) (w.2 points))

-- a tear by a failed call is told
pub tear-failed : (log : RunLog) (slot : Slot) (at : Moment) → has_call_failed_in (record log { breaks = log.breaks ++ tear_of slot at ∷ [] }) at.second ≡ true
tear-failed log slot at =
    ap (list_any (λ (b : Break). nat_eq (second_of b) at.second)) (filter-append has_failed log.breaks (tear_of slot at ∷ []))
    ∙ any-last (λ (b : Break). nat_eq (second_of b) at.second) (filter has_failed log.breaks) (tear_of slot at) itself
  where
    itself : nat_eq at.second at.second ≡ true
    itself = grind (arith, nat_tests)
