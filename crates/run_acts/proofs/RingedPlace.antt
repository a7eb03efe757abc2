-- A place is noted, and so the rings go on.
use Rattle.std.proofs.Common.{◌≡◌, ◌∙◌, inl, IfSome, ℕ, suc, ◌^◌, ◌<◌, ◌≤◌, Bool, true, false, cond, Option, Some, None, is_some, List, [], ◌∷◌, ◌++◌, length, refl, ap, sym, subst, arith}
use Rattle.activity_codec.specs.declared.values.Slot.{Slot}
use Rattle.activity_codec.specs.declared.values.Slot.TheVariants.{Driver, CoDriver}
use Rattle.trace_model.specs.declared.Action.{Action}
use Rattle.trace_model.specs.declared.Action.TheVariants.{Place}
use Rattle.trace_model.specs.declared.Card.{Card}
use Rattle.trace_model.specs.declared.Card.TheVariants.{A, B}
use Rattle.trace_model.specs.Trace.{TraceSecond}
use Rattle.tacho_types.specs.CardNumber.{card_number_bytes}
use Rattle.tacho_types.specs.declared.card_number.FullCardNumber.{FullCardNumber}
use Rattle.tacho_types.specs.declared.places.PlaceEntry.{PlaceEntry}
use Rattle.tacho_types.specs.Places.{place_bytes}
use Rattle.card_files.specs.card_layout.declared.files.Application.{Application}
use Rattle.run_events.specs.message_model.Records.{unit_place_ring}
use Rattle.unit_notes.specs.Entries.{unit_place_bytes}
use Rattle.hand_model.specs.card_image.Own.{own_number, IsOwnValid}
use Rattle.log_model.specs.declared.lines.Break.{Break}
use Rattle.log_model.specs.declared.lines.SlotFault.{SlotFault}
use Rattle.log_model.specs.declared.lines.SlotFault.TheVariants.{NoCard}
use Rattle.log_model.specs.Log.{RunLog, In}
use Rattle.log_model.specs.Slots.{Sitting, in_slot, is_accepted, refusal, same_card}
use Rattle.log_model.specs.Course.{ToldSecond}
use Rattle.unit_notes.specs.note_model.Odometer.{SpanFrom, odometer_at}
use Rattle.unit_notes.specs.note_model.Noted.{PlaceNote}
use Rattle.device_calls.specs.safety_model.Recording.{card_image}
use Rattle.device_calls.specs.safety_model.Safe.{Devices, card_of}
use Rattle.run_crew.specs.card_slots.declared.seats.Seat.{Seat}
use Rattle.run_crew.specs.card_slots.Calls.{Seats, seat_in, card_in, sitting_of, logged}
use Rattle.run_crew.specs.declared.cards.Accepted.{Accepted}
use Rattle.run_crew.specs.declared.cards.Cards.{Cards}
use Rattle.run_crew.specs.declared.cards.Known.{Known}
use Rattle.run_crew.specs.declared.cabin.Cabin.{Cabin}
use Rattle.run_crew.specs.Cards.{known_of, session_of, accepted_number, IsKnown}
use Rattle.run_crew.specs.Cabin.{CabinIsSound, AnswersTo, SeatAnswers, number_of_seat}
use Rattle.run_events.specs.Entries.{number_or_no_card}
use Rattle.run_outcome.specs.Lines.{Listed}
use Rattle.run_outcome.specs.declared.outcome.Outcome.{Outcome}
use Rattle.run_events.specs.run_rings.Spans.{with_second}
use Rattle.run_minutes.specs.declared.keeper.Moment.{Moment}
use Rattle.run_minutes.specs.Keeping.{with_lines}
use Rattle.run_minutes.specs.run_promise.Origin.{Origin}
use Rattle.run_minutes.specs.run_promise.Beside.{HaveLeftMore}
use Rattle.run_note_record.specs.Ringed.{IsPlaceIn, holder_in}
use Rattle.run_note_record.specs.RingsSoFar.{RingedBehind, RingedIn, AreFewer}
use Rattle.run_note_record.specs.Steps.{nobody, spans_cut}
use Rattle.run_note_record.specs.OnCards.{has_call_failed_in, IsPlaceOn, VehiclesGo, SessionsGo, NoOtherComes, PlaceIsTaken}
use Rattle.run_note_record.proofs.OnCards.{call-failed, call-failed-more}
use Rattle.run_note_record.proofs.Bytes.{IsPlaceTold, place-is}
use Rattle.run_note_record.proofs.RingSteps.{place-entered, place-is-cut}
use Rattle.run_record.specs.Recorded.{Values}
use Rattle.run_record.specs.Within.{course_in}
use Rattle.run_record.proofs.Pulling.{sitting-now}
use Rattle.run_record.proofs.Seats.{answers-in}
use Rattle.run_acts.specs.declared.run.Run.{Run}
use Rattle.run_acts.specs.Acting.{IsNotedOn, noted_run, noted_breaks}
use Rattle.run_acts.specs.Devices.{AreLeftMore}
use Rattle.run_acts.specs.Going.{end_of_seconds}
use Rattle.run_acts.specs.Recording.{log_of, values_of, RunWithin}
use Rattle.run_acts.specs.RunCards.{sizes_in}
use Rattle.run_acts.specs.RunRinged.{seats_of, IsLastFrom, RingsWithin, with_cut, RingsGoOn, RingsPlace}
use Rattle.run_acts.specs.CardWrites.{MayHavePlace}
use Rattle.run_acts.specs.Ringing.{IsPlaceNow, WritesPlace}
use Rattle.run_acts.proofs.Cabins.{session-known, noted-sessions}
use Rattle.device_calls.specs.run_unit_course.Lines.{cut_at}
use Rattle.run_acts.proofs.CardStays.{session-sizes}
use Rattle.run_acts.proofs.CardPlaces.{PlaceCall, entry-wide, place-taken, place-go, place-sessions, tear-failed}
use Rattle.run_acts.proofs.FallEvented.{known}
use Rattle.run_acts.proofs.RingedLines.{AreTears, seats-go}
use Rattle.run_acts.proofs.WithdrawnRecorded.{moment-is}
use Rattle.run_acts.proofs.RingedSecond.{more-left, odometer-here, goes-to, sits-then, is-cut, sits-cut, since-begun}

-- ---- who may enter a place

-- who is not refused sits accepted
may-enter : (seats : Seats) (slot : Slot) (speed : ℕ) (ending : Bool) (country region : ℕ) → refusal (logged seats) speed (Place slot ending country region) ≡ None → is_accepted (sitting_of (seat_in seats slot)) ≡ true
may-enter seats slot speed ending country region is = by slot is
  where
    one : (b : Bool) (fault : SlotFault) → cond {A = Option SlotFault} b None (Some fault) ≡ None → b ≡ true
    one true fault h = refl
    one false fault h = absurd (cc)

    by : (slot : Slot) → refusal (logged seats) speed (Place slot ending country region) ≡ None → is_accepted (sitting_of (seat_in seats slot)) ≡ true
    by Driver h = one (is_accepted (sitting_of seats.driver)) (NoCard Driver) h
    by CoDriver h = one (is_accepted (sitting_of seats.codriver)) (NoCard CoDriver) h

-- an accepted card sits there, which has told its number
pub record IsThere (cards : Cards) (seat : Option Seat) : Type 0 where
  pub card : Card
  pub number : FullCardNumber
  pub there : card_in seat ≡ Some card
  pub numbered : number_of_seat cards seat ≡ Some number

has-number : (known : Known) → IsKnown known → is_some known.accepted ≡ true → (number : FullCardNumber) × (accepted_number known ≡ Some number)
has-number known is some = by known.accepted refl known.number refl some (is.numbered)
  where
    by : (a : Option Accepted) → known.accepted ≡ a → (n : Option FullCardNumber) → known.number ≡ n → is_some known.accepted ≡ true → IfSome known.accepted (λ x. is_some known.number ≡ true) → (number : FullCardNumber) × (accepted_number known ≡ Some number)
    by None none n is_ has told = absurd (let no : is_some known.accepted ≡ false = ap (λ (o : Option Accepted). is_some o) none in cc)
    by (Some x) here None is_ has told =
        let yes : is_some known.number ≡ true = subst (λ (o : Option Accepted). IfSome o (λ y. is_some known.number ≡ true)) here told in
        absurd (let no : is_some known.number ≡ false = ap (λ (o : Option FullCardNumber). is_some o) is_ in cc)
    by (Some x) here (Some n) is_ has told = (n, ap (λ (b : Bool). cond b known.number None) has ∙ is_)

seated-there_ : (low : ℕ) (cards : Cards) → IsKnown cards.a → IsKnown cards.b → (seat : Option Seat) → SeatAnswers low cards seat → is_accepted (sitting_of seat) ≡ true → IsThere cards seat
seated-there_ low cards a b None answers is = absurd (cc)
seated-there_ low cards a b (Some seat) answers is =
    let n = has-number (known_of cards seat.card) (each seat.card) (ap (λ (o : Option Accepted). is_some o) (sym (session-known cards seat.card)) ∙ by seat.newest (session_of cards seat.card) answers is) in
    record { card = seat.card; number = n.0; there = refl; numbered = n.1 }
  where
    each : (c : Card) → IsKnown (known_of cards c)
    each A = a
    each B = b

    by : (n : Option ℕ) (q : Option Accepted) → AnswersTo low n q → is_some n ≡ true → is_some q ≡ true
    by None q h some = absurd (cc)
    by (Some n) None h some = absurd h
    by (Some n) (Some x) h some = refl

-- A PLACE is not refused where an accepted card sits.
pub who-enters : (low : ℕ) (cabin : Cabin) → CabinIsSound low None cabin → (slot : Slot) (speed : ℕ) (ending : Bool) (country region : ℕ) → refusal (logged cabin.slots.seats) speed (Place slot ending country region) ≡ None → IsThere cabin.cards (seat_in cabin.slots.seats slot)
who-enters low cabin stands slot speed ending country region allowed =
    seated-there_ low cabin.cards stands.a stands.b (seat_in cabin.slots.seats slot) (answers-in low cabin stands slot) (may-enter cabin.slots.seats slot speed ending country region allowed)

-- its number is the one that it told
told-number : (known : Known) (number : FullCardNumber) → accepted_number known ≡ Some number → known.number ≡ Some number
told-number known number is = by (is_some known.accepted) is
  where
    by : (b : Bool) → cond b known.number None ≡ Some number → known.number ≡ Some number
    by true h = h
    by false h = absurd (cc)

seat-number : (cards : Cards) (seat : Option Seat) (card : Card) (number : FullCardNumber) → card_in seat ≡ Some card → number_of_seat cards seat ≡ Some number → (known_of cards card).number ≡ Some number
seat-number cards None card number there numbered = absurd (cc)
seat-number cards (Some seat) card number there numbered =
    let own : seat.card ≡ card = cc in
    subst (λ (c : Card). (known_of cards c).number ≡ Some number) own (told-number (known_of cards seat.card) number numbered)

-- ---- fewer cards, or the same, are accepted behind a note
pub noted-fewer : (card : Card) (second : ℕ) (run new : Run) (fell : Bool) → new ≡ noted_run fell card second run → AreFewer (seats_of run) (seats_of new)
noted-fewer card second run new fell is = subst (λ (r : Run). AreFewer (seats_of run) (seats_of r)) (sym is) (by fell)
  where
    by : (fell : Bool) → AreFewer (seats_of run) (seats_of (noted_run fell card second run))
    by false = λ c. inl refl
    by true = seats-go run.noted run.keeper.cabin.cards (noted_run true card second run).keeper.cabin.cards (noted-sessions card second run true)

pub noted-odometer : (card : Card) (second : ℕ) (run new : Run) (fell : Bool) → new ≡ noted_run fell card second run → new.keeper.odometer ≡ run.keeper.odometer
noted-odometer card second run new false is = ap (λ (r : Run). r.keeper.odometer) is
noted-odometer card second run new true is = ap (λ (r : Run). r.keeper.odometer) is

pub noted-count : (card : Card) (second : ℕ) (run new : Run) (fell : Bool) → new ≡ noted_run fell card second run → new.noted ≡ run.noted
noted-count card second run new false is = ap (λ (r : Run). r.noted) is
noted-count card second run new true is = ap (λ (r : Run). r.noted) is

pub noted-tears : (fell : Bool) (slot : Slot) (at : Moment) → AreTears at (noted_breaks fell slot at)
noted-tears false slot at = tt
noted-tears true slot at = ((slot, refl), tt)

-- ---- A PLACE

module _ (o : Origin) (done : List TraceSecond) (s : TraceSecond) (front rest : List Action) (slot : Slot) (ending : Bool) (country region : ℕ) (are : s.actions ≡ front ++ Place slot ending country region ∷ rest) (run : Run) (before : Outcome) (d e : Devices)
    (w : RunWithin o done s (In (length front)) [] [] run before d) (lines : List Break) (later : RunLog) (is : later ≡ record (log_of before) { breaks = (log_of before).breaks ++ lines })
    (tears : AreTears (record { second = s.number; begun = suc (length front); late = false }) lines) (left : HaveLeftMore o d e) (spans : List SpanFrom) (t : ToldSecond) (rings : RingsWithin o done s w.within.b.run.log front run (log_of before) spans t d)
    (card : Card) (seat : card_in (seat_in run.keeper.cabin.slots.seats slot) ≡ Some card) (some : is_some (session_of run.keeper.cabin.cards card) ≡ true) (low : ℕ) (stands : CabinIsSound low None run.keeper.cabin)
    (number : FullCardNumber) (numbered : number_of_seat run.keeper.cabin.cards (seat_in run.keeper.cabin.slots.seats slot) ≡ Some number) (entry : PlaceEntry) (now : IsPlaceNow ending country region run entry) (next : s.number ≡ run.next) (small : s.number < 2 ^ 32) where
  abbrev v : Values
  v = values_of run before

  abbrev a : Action
  a = Place slot ending country region

  valid : IsOwnValid (card_image o.recording card)
  valid = (w.within.written card some).valid

  sitting : (u : ℕ) × (in_slot (course_in w.within.b done s (In (length front)) (log_of before)).slots slot ≡ Some (record { card = card; accepted = Some u }))
  sitting = sitting-now o done s (In (length front)) v d w.within slot card seat low stands some

  abbrev x : Sitting
  x = record { card = card; accepted = Some sitting.0 }

  abbrev note : PlaceNote
  note = record { second = s.number; card = card; ending = ending; country = country; region = region }

  abbrev now_spans : List SpanFrom
  now_spans = with_second spans run.keeper.odometer t

  holder-is : card_number_bytes number ≡ own_number (card_image o.recording card)
  holder-is = subst (λ (q : Option FullCardNumber). card_number_bytes (number_or_no_card q) ≡ own_number (card_image o.recording card)) (seat-number run.keeper.cabin.cards (seat_in run.keeper.cabin.slots.seats slot) card number seat numbered)
      (known o w.origin done s (In (length front)) v d w.within card some)

  odometer-is : entry.odometer.0 ≡ odometer_at s.number now_spans
  odometer-is = now.odometer w.within.sp w.within.minutes ∙ sym (odometer-here o done s (In (length front)) [] [] v d w.within front (log_of before) spans run.keeper.odometer t (seats_of run) rings.ringed rings.base)

  place-told : (log : RunLog) → IsPlaceTold log now_spans (holder_in o) note number entry
  place-told log = record {
    holder_is = holder-is;
    long = ap (λ (l : List ℕ). length l) holder-is ∙ w.origin.long card valid;
    time = now.time ∙ sym next;
    low = let at = now.time in omega (arith, at, next, small);
    kind = now.kind;
    country = now.country_is;
    region = now.region_is;
    odometer = odometer-is;
    few = let most = now.most in omega (arith, most);
  }

  stands-for : (log : RunLog) → IsPlaceIn o log now_spans note (unit_place_bytes number entry)
  stands-for log = place-is log now_spans (holder_in o) note number entry (place-told log)

  stands-on : IsPlaceOn now_spans note (place_bytes entry)
  stands-on = record { entry = entry; bytes = refl; time = now.time ∙ sym next; kind = now.kind; country = now.country_is; region = now.region_is; odometer = odometer-is }

  abbrev log_cut : RunLog
  log_cut = with_cut later s (front ++ Place slot ending country region ∷ [])

  long : length (unit_place_bytes number entry) ≡ unit_place_ring.width
  long = (stands-for later).size

  counted-on : (new : Run) → new.noted ≡ run.noted → new.noted ≤ length later.finds
  counted-on new same = subst (λ (k : ℕ). k ≤ length later.finds) (sym same) (subst (λ (l : RunLog). run.noted ≤ length l.finds) (sym is) rings.counted)

  pub place-ringed : (failed : Bool) (new : Run) → AreFewer (seats_of run) (seats_of new) → new.keeper.odometer ≡ run.keeper.odometer → new.noted ≡ run.noted → WritesPlace (Some number) entry failed d.unit e.unit →
      ((log : RunLog) → (has_call_failed_in later s.number ≡ true → has_call_failed_in log s.number ≡ true) → (failed ≡ true → has_call_failed_in log s.number ≡ true) → PlaceIsTaken o log note (place_bytes entry) d e) →
      VehiclesGo o now_spans NoOtherComes d e → SessionsGo o NoOtherComes d e → RingsGoOn failed o done s w.within.b (front ++ a ∷ []) new later spans t e
  place-ringed false new fewer same noted writes takes goes sessions = record {
    base = subst (λ (b : ℕ). IsLastFrom b (with_second spans b t)) (sym same) rings.base;
    counted = counted-on new noted;
    ringed = subst (λ (b : ℕ). RingedIn o done s w.within.b.run.log (front ++ a ∷ []) later spans b t (seats_of new) e) (sym same)
        (place-entered d e o done s w.within.b.run.log (log_of before) later front spans run.keeper.odometer t (seats_of run) (seats_of new) rings.ringed
        (goes-to o done s front rest a are v d w.within lines later is tears) slot ending country region x (sits-then o done s front rest a are v d w.within lines later is tears slot x sitting.1) refl
        (unit_place_bytes number entry) writes long (stands-for later) left (place_bytes entry) (entry-wide entry) stands-on (takes later (λ h. h) (λ apart_. absurd (let wrong : false ≡ true = apart_ in cc))) goes sessions fewer);
  }
  place-ringed true new fewer same noted writes takes goes sessions = record {
    counted = counted-on new noted;
    lines = since-begun o done s (In (length front)) [] None [] v d w.within later (lines, ap (λ (l : RunLog). l.breaks) is);
    behind = (is-cut o done s front rest a are v d w.within lines later is tears).behind;
    odometer = same ∙ w.odometer;
    ringed = subst (λ (b : ℕ). RingedBehind o (done ++ s ∷ []) (with_cut later s (front ++ a ∷ [])) (suc s.number) (spans_cut spans b (with_cut later s (front ++ a ∷ [])) done s) nobody e) (sym same)
        (place-is-cut d e o done s w.within.b.run.log (log_of before) (with_cut later s (front ++ a ∷ [])) front rest spans run.keeper.odometer t (seats_of run) rings.ringed slot ending country region
        (is-cut o done s front rest a are v d w.within lines later is tears) x (sits-cut o done s front rest a are v d w.within lines later is tears slot x sitting.1) refl
        (unit_place_bytes number entry) writes long (stands-for (with_cut later s (front ++ a ∷ []))) left (place_bytes entry) (entry-wide entry) stands-on
        (takes log_cut (call-failed-more later log_cut (cut_at s.number true (length (front ++ a ∷ [])) ∷ [], refl) s.number) (λ _. call-failed log_cut s.number (is-cut o done s front rest a are v d w.within lines later is tears).failed)) goes sessions);
  }

-- ---- AS THE CALL SAYS IT

pub place-goes : (slot : Slot) (entry : PlaceEntry) (at : Moment) (failed : Bool) (old new : Run) (breaks after : Listed Break) (d e : Devices) (card : Card) (number : FullCardNumber) (fell : Bool) → card_in (seat_in old.keeper.cabin.slots.seats slot) ≡ Some card →
    number_of_seat old.keeper.cabin.cards (seat_in old.keeper.cabin.slots.seats slot) ≡ Some number → is_some (session_of old.keeper.cabin.cards card) ≡ true → (low : ℕ) → CabinIsSound low None old.keeper.cabin → at.second ≡ old.next → old.next ≤ end_of_seconds →
    IsNotedOn card slot at old new breaks after fell → (is_some d.unit.image ≡ true → WritesPlace (Some number) entry failed d.unit e.unit) → AreLeftMore d e →
    ((a : Accepted) → session_of old.keeper.cabin.cards card ≡ Some a → PlaceCall fell failed a.session.application entry (card_of d card) (card_of e card) × MayHavePlace a.session.application entry (card_of d card) (card_of e card)) → ((c : Card) → same_card card c ≡ false → (y : List ℕ) → (card_of e c).may_leave y → (card_of d c).may_leave y) →
    RingsPlace slot entry at failed old new breaks after d e
place-goes slot entry at failed old new breaks after d e card number fell seat numbered some low stands second small noted writes keeps call others = λ ending country region now late speed before is o done s here front rest are n allowed w spans t rings time.
    let number_is = here.number in
    let moment : at ≡ record { second = s.number; begun = suc (length front); late = false } = moment-is at s.number (suc (length front)) (second ∙ sym here.number) n late in
    let lines : List Break = noted_breaks fell slot at in
    place-ringed o done s front rest slot ending country region are old before d e w lines (log_of (record before { breaks = after }))
    (ap (λ (l : Listed Break). record (log_of before) { breaks = l.items }) (noted.told ∙ ap (λ (l : Listed Break). with_lines lines l) (sym is)))
    (subst (λ (m : Moment). AreTears m lines) moment (noted-tears fell slot at))
    (more-left o d e (w.within.powered.lit.unit.unit_holds [] []).later w.within.there.clocks keeps) spans t rings card seat some low stands number numbered entry now here.number (omega (arith, number_is, small))
    failed new (noted-fewer card at.second old new fell noted.run) (noted-odometer card at.second old new fell noted.run) (noted-count card at.second old new fell noted.run) (writes w.within.there.unit)
    (λ log more cut. place-taken o log (record { second = s.number; card = card; ending = ending; country = country; region = region }) entry fell failed d e
    (λ torn. more (torn-told fell slot at s.number (log_of before) (second ∙ sym here.number) torn
    (log_of (record before { breaks = after })) (ap (λ (l : Listed Break). record (log_of before) { breaks = l.items }) (noted.told ∙ ap (λ (l : Listed Break). with_lines lines l) (sym is))))) cut
    (λ valid. sized (sizes_in o card) (session_of old.keeper.cabin.cards card) refl some (λ a at_. session-sizes o done s (In (length front)) [] [] old before d w card valid a at_)) others)
    (place-go o (with_second spans old.keeper.odometer t) done s (In (length front)) [] [] old before d e w card entry some (λ a at_. (call a at_).1) others)
    (place-sessions o done s (In (length front)) [] [] old before d e w card entry some (λ a at_. (call a at_).1) others)
  where
    sized : (app : Application) (q : Option Accepted) → session_of old.keeper.cabin.cards card ≡ q → is_some q ≡ true → ((a : Accepted) → session_of old.keeper.cabin.cards card ≡ Some a → a.session.application ≡ app) → PlaceCall fell failed app entry (card_of d card) (card_of e card)
    sized app None is none sizes = absurd (let wrong : false ≡ true = none in cc)
    sized app (Some a) is has sizes = subst (λ (p : Application). PlaceCall fell failed p entry (card_of d card) (card_of e card)) (sizes a is) (call a is).0

    torn-told : (fell : Bool) (slot : Slot) (at : Moment) (u : ℕ) (log : RunLog) → at.second ≡ u → fell ≡ true → (later : RunLog) → later ≡ record log { breaks = log.breaks ++ noted_breaks fell slot at } → has_call_failed_in later u ≡ true
    torn-told false slot at u log is apart_ later are = absurd (let wrong : false ≡ true = apart_ in cc)
    torn-told true slot at u log is torn later are =
        subst (λ (l : RunLog). has_call_failed_in l u ≡ true) (sym are) (subst (λ (n : ℕ). has_call_failed_in (record log { breaks = log.breaks ++ noted_breaks true slot at }) n ≡ true) is (tear-failed log slot at))
