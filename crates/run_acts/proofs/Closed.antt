-- The session of a card that has left its slot is closed, behind the minutes that its leaving decides: what is recorded.
use Rattle.std.proofs.Common.{◌≡◌, ◌∙◌, ◌⊎◌, inl, inr, ℕ, suc, ◌/◌, ◌^◌, ◌<◌, ◌≤◌, Bool, true, false, Option, Some, None, List, [], ◌∷◌, ◌++◌, length, is_some, refl, ap, sym, subst, arith}
use Rattle.std.specs.Prelude.{IfSome}
use Rattle.activity_codec.specs.declared.values.Activity.{Activity}
use Rattle.activity_codec.specs.declared.values.Slot.{Slot}
use Rattle.trace_model.specs.declared.Card.{Card}
use Rattle.trace_model.specs.Trace.{TraceSecond}
use Rattle.log_model.specs.run_model.declared.Device.TheVariants.{Unit as Recorder}
use Rattle.tach_media.specs.Medium.{State, IsCoherent, LeavesOnly, HasCause, HasBroken, last_count}
use Rattle.tach_media.proofs.Runs.{if_told, at_image, weaken}
use Rattle.card_files.specs.card_layout.declared.files.Application.{Application}
use Rattle.card_files.specs.card_layout.declared.files.TheConstants.{LARGEST_IMAGE}
use Rattle.card_files.specs.card_layout.Application.{IsApplication}
use Rattle.card_files.proofs.card_layout.Sizes.{largest_image}
use Rattle.hand_model.specs.card_image.Own.{own_sizes, IsOwnValid}
use Rattle.device_calls.specs.card_session.Sessions.{IsSession}
use Rattle.device_calls.specs.card_session.Cards.{IsCardClosing}
use Rattle.device_calls.specs.Times.{AreTimedSince}
use Rattle.device_calls.proofs.TimedCalls.{closing-timed}
use Rattle.unit_model.specs.minute_model.Span.{Span, end_of}
use Rattle.minute_rules.specs.Kept.{CountsSpan}
use Rattle.log_model.specs.declared.lines.Break.{Break}
use Rattle.log_model.specs.Log.{RunLog, In}
use Rattle.log_model.specs.Causes.{RoseBy, device_of}
use Rattle.log_model.specs.Course.{went}
use Rattle.unit_notes.specs.Journal.{LeavesJournal}
use Rattle.unit_model.specs.Image.{odometer_at}
use Rattle.device_calls.specs.unit_rule.Odometer.{HasTravelled}
use Rattle.device_calls.specs.run_unit_course.Legs.{all_travelled}
use Rattle.device_calls.specs.safety_model.Safe.{Devices, breakdowns_of}
use Rattle.run_crew.specs.declared.cards.Accepted.{Accepted}
use Rattle.run_crew.specs.declared.cards.Cards.{Cards}
use Rattle.run_crew.specs.declared.cabin.Cabin.{Cabin}
use Rattle.run_crew.specs.Cards.{session_of, with_session}
use Rattle.run_crew.specs.Cabin.{torn_out, with_session_of, CabinIsSound, crew_of}
use Rattle.run_minutes.specs.run_promise.Found.{Found, found_of}
use Rattle.run_minutes.specs.run_promise.Between.{RunLedger}
use Rattle.run_events.specs.run_course.Seconds.{kept_all}
use Rattle.run_minutes.specs.run_devices.Told.{AreFoundCards, SessionIsOnCard, DevicesPowered, arranged}
use Rattle.run_minutes.proofs.run_devices.Parts.{CardLit, parts-of}
use Rattle.run_minutes.proofs.run_devices.Travelled.{travelled-noted}
use Rattle.run_events.specs.run_course.Reached.{IsTearAt}
use Rattle.run_outcome.specs.Lines.{Listed}
use Rattle.run_outcome.specs.declared.outcome.Outcome.{Outcome}
use Rattle.run_minutes.specs.declared.keeper.Moment.{Moment}
use Rattle.run_minutes.specs.Keeping.{tear_of, with_lines}
use Rattle.run_minutes.proofs.Fates.{no-lines}
use Rattle.run_minutes.proofs.CardBooked.{session-unset}
use Rattle.run_minutes.specs.run_promise.Origin.{Origin, rule_of}
use Rattle.run_record.specs.Recorded.{Values, carried}
use Rattle.run_record.specs.Within.{IsLeaving, GoesOnSo, SecondGoesOn, RecordAtFailure}
use Rattle.run_record.specs.Taking.{IsCalledLeaving, fallen_values}
use Rattle.run_record.proofs.Closing.{session-closed, closing-fails, leaving-torn, leaving-tear_fails}
use Rattle.run_acts.specs.declared.run.Run.{Run}
use Rattle.run_acts.specs.Power.{with_cabin}
use Rattle.run_acts.specs.Acting.{Closing, Bare, Closed, Fell, closed_cabin, closed_breaks, closed_falls, IsClosingOf, IsClosed}
use Rattle.run_acts.specs.Behind.{IsPoweredOrOff, carried_closed}
use Rattle.run_acts.specs.Recording.{log_of, values_of, RunWithin, GoesOnOrFails}
use Rattle.log_model.specs.Slots.{other_slot}
use Rattle.trace_model.specs.declared.Action.{Action}
use Rattle.trace_model.specs.declared.Action.TheVariants.{Withdraw}
use Rattle.unit_notes.specs.event_model.declared.kinds.TheConstants.{CARD_FAULT}
use Rattle.run_events.specs.Entries.{entry_of}
use Rattle.run_events.specs.run_course.Moments.{and_break}
use Rattle.run_events.specs.run_course.Telling.{IsLeft}
use Rattle.run_events.proofs.run_course.Telling.{card-torn}
use Rattle.run_events.proofs.run_course.Reached.{leaves-first}
use Rattle.run_note_record.specs.Noting.{Acting}
use Rattle.run_note_record.specs.Bringing.{NotFound}
use Rattle.run_note_record.specs.EventsSoFar.{EventedNow, MayFollow}
use Rattle.run_note_record.proofs.Adding.{call-notes}
use Rattle.run_note_record.proofs.Cutting.{failure-cuts}
use Rattle.run_note_record.proofs.Falling.{tear-adds}
use Rattle.run_acts.specs.NotedEvents.{NotesEvents}
use Rattle.run_acts.specs.Noting.{closed_events}
use Rattle.run_acts.specs.Evented.{EventsGoOn}
use Rattle.run_acts.proofs.RoundFaults.{none-added}
use Rattle.run_acts.proofs.FallEvented.{call-evented, begins-now, leaving-out, leaving-falls}
use Rattle.run_acts.proofs.Withdrawn.{closed-any}
use Rattle.run_acts.proofs.NoteRecorded.{goes-as, any-evented, card-goes, unit-any, unit-of, to-unit, rose-by, rose-on}
use Rattle.run_minutes.specs.Later.{IsCalm, failed_tears}
use Rattle.run_minutes.proofs.Calm.{none-told}
use Rattle.run_acts.proofs.Rising.{card-more, card-fell}
use Rattle.run_minutes.specs.CardDeeds.{ClosesOn}
use Rattle.run_minutes.proofs.CardDeeds.{does-close}
use Rattle.unit_notes.specs.note_model.Noted.{Note}
use Rattle.run_acts.specs.Closings.{spells_of, with_last_shut, last_slot, notes_within}
use Rattle.device_calls.specs.device_rule.Views.{other}
use Rattle.run_acts.specs.Truths.{past_of, IsWordIn, truths_within, marked}
use Rattle.run_acts.specs.Stays.{Shut, Stay, spells, sits_in, as_noted, ClosesOnCard, HasStays, Whose, covers, AreKnown, owed_by, AreTrue, AreStays, AllStay, start_shown, acceptances_told, judged_told, judged_in}
use Rattle.run_acts.specs.Comings.{TellMore}
use Rattle.run_acts.proofs.Stays.{on_last, on-last-comings, on-last-none, on-last-true, last-spelled, last-shut-slot, with_end, stays-close, on-last-owes, on-last-judged, on-last-verdicts}
use Rattle.run_acts.proofs.AllStay.{turns-so, placed-bare, all-one, mine-left, others-left, other-apart, known-still, stood-calm, stood-broken}
use Rattle.run_acts.proofs.SeatsThen.{sits-nowhere, torn-other, torn-slot}
use Rattle.run_acts.proofs.RingedLines.{TellsBeside, phase_at, tears-beside}
use Rattle.run_acts.proofs.KeptSeats.{floor-in}
use Rattle.run_acts.proofs.FallenStays.{all-fell}
use Rattle.run_acts.proofs.TornNotes.{spells-unhurt}
use Rattle.run_acts.proofs.Words.{closed-now}
use Rattle.run_acts.proofs.MinuteEnds.{followed-lit}
use Rattle.run_acts.proofs.Since.{HasSat}
use Rattle.run_acts.proofs.LastLine.{IsSince, since-line, only-second, found_of_all, last-found}
use Rattle.run_acts.proofs.ToldLines.{OfOne, told-of, accepted-of}

-- when a card was last used, behind the closing of its session
closed-timed : (f : Found) (w : RunLedger) (cards : Cards) (c : Card) (U X Y Z : State) → AreFoundCards f cards → IsCoherent X → LARGEST_IMAGE ≤ X.size → (a : Accepted) (act : Activity) → session_of cards c ≡ Some a → DevicesPowered f w cards (arranged c U X Z) →
    LeavesOnly X Y (λ i n. IsSession a.session i → IsCardClosing a.session act i n) → IsOwnValid (found_of f c).image → AreTimedSince (found_of f c).image (found_of f c).began X → AreTimedSince (found_of f c).image (found_of f c).began Y
closed-timed f w cards c U X Y Z found whole size a act has p run valid h =
    let one : CardLit f w.book (w.standing c) (w.hands c) (w.firsts c) (w.brought c) (Some a) c U X = subst (λ (o : Option Accepted). CardLit f w.book (w.standing c) (w.hands c) (w.firsts c) (w.brought c) o c U X) has ((parts-of f w cards c U X Z p).mine valid) in
    let on : SessionIsOnCard (found_of f c) (w.hands c) one.goes.has (w.standing c) a.session X = one.goes.goes.0 in
    let sound : IsApplication a.session.application = subst IsApplication (sym on.sizes) (found.sizes c valid) in
    let fits = largest_image a.session.application sound in
    closing-timed (found_of f c).image (found_of f c).began X Y one.rule.dark.later whole h a.session act sound (omega (arith, fits, size))
    (if_told X.image (λ (x : List ℕ). own_sizes x ≡ a.session.application) (λ x is. (one.held.now x (whole.is_left x is)).0 ∙ sym on.sizes))
    (weaken run (λ x n told closes. closes (at_image (IsSession a.session) told on.session)))

module _ {C : Type 0} (state : C → State) (c : Card) (slot : Slot) (at : Moment) (run : Run) (told : Outcome) (U V Z : State) (x y : C) (unit_whole : IsCoherent U) (whole : IsCoherent (state x)) (size : LARGEST_IMAGE ≤ (state x).size)
    (left : IfSome (session_of run.keeper.cabin.cards c) (λ s. (act : Activity) × LeavesOnly (state x) (state y) (λ i n. IsSession s.session i → IsCardClosing s.session act i n))) (still : session_of run.keeper.cabin.cards c ≡ None → y ≡ x)
    (unit : LeavesOnly U V LeavesJournal) (failed : Bool) (cause : HasCause U V failed) (span : Span) (stands : CountsSpan run.minutes span) (ends : end_of span ≡ run.next)
    (o : Origin) (done : List TraceSecond) (s : TraceSecond) (n : ℕ) (moment : at ≡ record { second = s.number; begun = n; late = false }) (w : RunWithin o done s (In n) [] [] run told (arranged c U (state x) Z)) (from : w.within.from ≡ s.number / 60)
    (leaving : is_some (session_of run.keeper.cabin.cards c) ≡ true → IsLeaving (log_of told) (went w.within.b.run.log done).before s (In n) (s.number / 60) (s.number / 60) run.keeper.cabin slot c) where
  abbrev d : Devices
  d = arranged c U (state x) Z

  abbrev e : Devices
  e = arranged c V (state y) Z

  abbrev v : Values
  v = values_of run told

  abbrev carries : RunLedger
  carries = carried v w.within.due (kept_all w.within.new w.within.b.run.book) w.within.standing w.within.brought w.within.hands w.within.firsts

  began : o.found.unit.began ≤ U.clock
  began = ((parts-of o.found carries run.keeper.cabin.cards c U (state x) Z w.within.powered).unit.unit.unit_holds [] []).later

  travels : HasTravelled (odometer_at o.recording.unit) carries.book (all_travelled w.within.ds w.within.b.travel) e.unit
  travels = to-unit c V (state y) Z (λ (u : State). HasTravelled (odometer_at o.recording.unit) carries.book (all_travelled w.within.ds w.within.b.travel) u)
      (travelled-noted (odometer_at o.recording.unit) carries.book (all_travelled w.within.ds w.within.b.travel)
      (unit-of c U (state x) Z (λ (u : State). HasTravelled (odometer_at o.recording.unit) carries.book (all_travelled w.within.ds w.within.b.travel) u) w.within.travels) unit_whole unit)

  broke : failed ≡ true → RoseBy 1 (w.within.b.broken Recorder) (breakdowns_of e Recorder)
  broke bad = to-unit c V (state y) Z (λ (u : State). RoseBy 1 (w.within.b.broken Recorder) u.breakdowns)
      (rose-on (w.within.b.broken Recorder) U.breakdowns V.breakdowns (unit-of c U (state x) Z (λ (u : State). w.within.b.broken Recorder ≤ u.breakdowns) w.within.moment.unit)
      (rose-by U.breakdowns V.breakdowns (cause.breaks (parts-of o.found carries run.keeper.cabin.cards c U (state x) Z w.within.powered).unit.works bad)))

  -- it has sat in its slot since it was accepted
  abbrev SatHere : Type 0
  SatHere = (actions rest : List Action) → s.actions ≡ actions ++ Withdraw slot ∷ rest → n ≡ suc (length actions) → HasSat slot c s.number actions (log_of told).finds

  second : at.second ≡ s.number
  second = ap (λ (m : Moment). m.second) moment

  -- it has a session
  module _ (a : Accepted) (has : session_of run.keeper.cabin.cards c ≡ Some a) where
    closes : (act : Activity) × LeavesOnly (state x) (state y) (λ i n. IsSession a.session i → IsCardClosing a.session act i n)
    closes = subst (λ (o : Option Accepted). IfSome o (λ s. (act : Activity) × LeavesOnly (state x) (state y) (λ i n. IsSession s.session i → IsCardClosing s.session act i n))) has left

    goes : GoesOnSo o run.keeper.cabin.cards d e
    goes = card-goes o run.keeper.cabin.cards c U V (state x) (state y) Z began w.within.there (ap is_some has) unit closes.1
        (λ valid. closed-timed o.found carries run.keeper.cabin.cards c U (state x) (state y) Z w.within.found whole size a closes.0 has w.within.powered closes.1 valid)

    -- with this word
    abbrev shut-by : Activity → Shut
    shut-by word = record { second = s.number; word = word }

    -- what is made of the card
    abbrev so-far : List Note
    so-far = notes_within w.within.b done s (In n) (log_of told)

    -- it sits in no slot
    gone : sits_in run.keeper.cabin.slots.seats c ≡ false
    gone = sits-nowhere run.keeper.cabin.slots.seats c (leaving (ap is_some has)).nowhere

    stays-closed : (shut : ClosesOnCard slot run.minutes (Some a) (state x) (state y)) → IsOwnValid (found_of o.found c).image → (ss : List Stay) → HasStays s.number (found_of o.found c) run.keeper.memory.registration (spells_of c so-far) (sits_in run.keeper.cabin.slots.seats c) ss (Some a) (state x) →
        HasStays s.number (found_of o.found c) run.keeper.memory.registration (spells_of c so-far) (sits_in run.keeper.cabin.slots.seats c) (on_last (with_end (shut-by shut.0)) ss) None (state y)
    stays-closed shut valid ss h =
        let one : CardLit o.found carries.book (carries.standing c) (carries.hands c) (carries.firsts c) (carries.brought c) (Some a) c U (state x) =
        subst (λ (q : Option Accepted). CardLit o.found carries.book (carries.standing c) (carries.hands c) (carries.firsts c) (carries.brought c) q c U (state x)) has ((parts-of o.found carries run.keeper.cabin.cards c U (state x) Z w.within.powered).mine valid) in
        let on : SessionIsOnCard (found_of o.found c) (carries.hands c) one.goes.has (carries.standing c) a.session (state x) = one.goes.goes.0 in
        let sound : IsApplication a.session.application = subst IsApplication (sym on.sizes) (w.within.found.sizes c valid) in
        let most = largest_image a.session.application sound in
        stays-close s.number (found_of o.found c) run.keeper.memory.registration (spells_of c so-far) (sits_in run.keeper.cabin.slots.seats c) (sits_in run.keeper.cabin.slots.seats c) ss shut.0 a (state x) (state y)
        (subst (λ (p : Application). ClosesOn p shut.0 (state x) (state y)) on.sizes (does-close a.session shut.0 (state x) (state y) sound whole (omega (arith, most, size)) on.session shut.2)) gone h

    abbrev Held : Whose → Type 0
    Held whose = AreStays whose o (marked told.marks.items (truths_within o w.within.b.run.log done s)) s.number so-far (acceptances_told (log_of told)) (judged_told (log_of told)) run.keeper.memory.registration run.keeper.cabin d

    -- what was true of its stays is so: the word is that of the slot, in which the last of them began
    stays-hold : (whose : Whose) → covers whose c ≡ true → (shut : ClosesOnCard slot run.minutes (Some a) (state x) (state y)) → (IsOwnValid (found_of o.found c).image → last_slot (spells_of c so-far) ≡ Some slot) → SatHere → (h : Held whose) →
        (h.stays c ≡ []) ⊎ IsOwnValid (found_of o.found c).image → (IsOwnValid (found_of o.found c).image → HasStays s.number (found_of o.found c) run.keeper.memory.registration (spells_of c so-far) (sits_in run.keeper.cabin.slots.seats c) (h.stays c) (Some a) (state x)) →
        AreTrue whose (marked told.marks.items (truths_within o w.within.b.run.log done s)) c run.keeper.memory.registration (found_of o.found c).image (h.stays c) →
        AreTrue whose (marked told.marks.items (truths_within o w.within.b.run.log done s)) c run.keeper.memory.registration (found_of o.found c).image (on_last (with_end (shut-by shut.0)) (h.stays c))
    stays-hold whose in_ shut placed sat h only shown all = (
      on-last-true (marked told.marks.items (truths_within o w.within.b.run.log done s)) (with_end (shut-by shut.0)) (h.stays c) (λ x front are is. (is.0, is.1, by x front are only)) all.0,
      on-last-owes (owed_by whose (marked told.marks.items (truths_within o w.within.b.run.log done s)) c) (with_end (shut-by shut.0)) (λ x. refl) (λ x. refl) run.keeper.memory.registration (own_sizes (found_of o.found c).image).activity (h.stays c) (start_shown (found_of o.found c).image) all.1,
    )
      where
        last-of : (x : Stay) (front : List Stay) → h.stays c ≡ front ++ x ∷ [] → last_slot (spells (h.stays c)) ≡ Some x.found.slot
        last-of x front are = ap (λ (l : List Stay). last_slot (spells l)) are ∙ last-spelled front x

        -- no action has withdrawn from the slot since that
        since : (x : Stay) (front : List Stay) → IsOwnValid (found_of o.found c).image → h.stays c ≡ front ++ x ∷ [] → x.found.slot ≡ slot → (actions rest : List Action) → s.actions ≡ actions ++ Withdraw slot ∷ rest → n ≡ suc (length actions) → IsSince s.number x.found actions
        since x front valid are there actions rest is count =
            let order = followed-lit o done s (In n) [] None [] v d w.within in
            let of : OfOne (marked told.marks.items (truths_within o w.within.b.run.log done s)) c (acceptances_told (log_of told)) (found_of_all (h.stays c)) =
            accepted-of (marked told.marks.items (truths_within o w.within.b.run.log done s)) c (log_of told) run.keeper.memory.registration (own_sizes (found_of o.found c).image).activity (h.stays c) (h.since c) (start_shown (found_of o.found c).image) (h.verdicts c in_ valid)
            (told-of whose (marked told.marks.items (truths_within o w.within.b.run.log done s)) c (judged_told (log_of told)) (λ (k : Card). judged_in (h.stays k) (h.since k)) h.entered in_ h.judged) in
            since-line (done ++ s ∷ []) s (log_of told).finds actions rest slot c is (only-second o.from done s order.order (w.within.moment.number ∙ order.next)) (sat actions rest is count) (found_of_all (h.stays c)) of.others of.merged of.theirs
            (found_of_all front) x.found (last-found front x (h.stays c) are) there

        by : (x : Stay) (front : List Stay) → h.stays c ≡ front ++ x ∷ [] → (h.stays c ≡ []) ⊎ IsOwnValid (found_of o.found c).image → IsWordIn (rule_of o) (past_of w.within.b.run.log (done ++ s ∷ [])) x.found s.number shut.0
        by x front are (inl empty) = absurd (let wrong : None ≡ Some x.found.slot = sym (ap (λ (l : List Stay). last_slot (spells l)) empty) ∙ last-of x front are in cc)
        by x front are (inr valid) =
            let shut_then : with_last_shut s.number (spells (h.stays c)) ≡ spells_of c so-far = sym (ap (λ (b : Bool). as_noted s.number (Some a) b (spells (h.stays c))) gone) ∙ (shown valid).spell in
            let slots : Some slot ≡ Some x.found.slot = sym (placed valid) ∙ ap last_slot (sym shut_then) ∙ last-shut-slot s.number (spells (h.stays c)) ∙ last-of x front are in
            let same : slot ≡ x.found.slot = cc in
            closed-now o done s n [] [] v d w.within slot (record { phase = In n; slot = slot; card = c }) (leaving (ap is_some has)).leaves shut.0 (shut.1 w.within.sp w.within.minutes) x.found (sym same) (since x front valid are (sym same))

    called : IsCalledLeaving o done s (In n) v d e w.within slot c
    called = record { low = s.number / 60; leaving = leaving (ap is_some has); is_now = from; goes = goes; travels = travels }

    -- what is known behind it was known before, where the card has not broken down
    before-closed : (state y).breakdowns ≡ (state x).breakdowns → (whose : Whose) → AreKnown whose o (log_of told) e → AreKnown whose o (log_of told) d
    before-closed calm whose known = known-still whose o (log_of told) d e (stood-calm o d e (card-more c U V (state x) (state y) Z cause.breakdowns calm)) known

    -- it is closed, and the card has not broken down
    closed : (state y).breakdowns ≡ (state x).breakdowns → ((whose : Whose) → AreKnown whose o (log_of told) d → covers whose c ≡ true → IsOwnValid (found_of o.found c).image → last_slot (spells_of c so-far) ≡ Some slot) → SatHere → (failed ≡ false → TellMore [] U V) → ClosesOnCard slot run.minutes (Some a) (state x) (state y) → (b : Bool) → failed ≡ b → IsPoweredOrOff b o.found (carried_closed Closed c carries) (with_session c None run.keeper.cabin.cards) e → GoesOnOrFails b o done s (In n) [] (with_cabin (with_session_of c None run.keeper.cabin) run) told e w.within.b
    closed calm placed sat go shut false is powered = goes-as o done s (In n) (In n) [] [] [] run (with_cabin (with_session_of c None run.keeper.cabin) run) told told d e w.within.from w refl refl refl (session-closed d e o done s (In n) v w.within slot c called (card-more c U V (state x) (state y) Z cause.breakdowns calm) powered)
        (all-one o (marked told.marks.items (truths_within o w.within.b.run.log done s)) s.number c (log_of told) (log_of told) so-far so-far run.keeper.memory.registration run.keeper.cabin (with_session_of c None run.keeper.cabin) U V (state x) (state y) Z (λ whose known. before-closed calm whose known) (others-left c run.keeper.cabin.cards) refl (λ at_ there. there)
        (λ whose known in_. refl) (λ whose known in_ was. placed-bare so-far (with_session_of c None run.keeper.cabin) c (mine-left c run.keeper.cabin.cards))
        (λ whose known in_ h. turns-so whose (marked told.marks.items (truths_within o w.within.b.run.log done s)) c s.number (found_of o.found c) (log_of told) run.keeper.memory.registration (spells_of c so-far) (sits_in run.keeper.cabin.slots.seats c) (session_of run.keeper.cabin.cards c) (session_of (with_session c None run.keeper.cabin.cards) c) U V (state x) (state y) (on_last (with_end (shut-by shut.0)))
        (on-last-none (with_end (shut-by shut.0)))
        (on-last-comings run.keeper.memory.registration (found_of o.found c).image (with_end (shut-by shut.0)) (λ s. refl)) (go is)
        (λ all lines. on-last-judged (with_end (shut-by shut.0)) (λ s. refl) (λ s. refl) all lines)
        (λ all lines waits was. on-last-verdicts (with_end (shut-by shut.0)) (λ p s is. is) run.keeper.memory.registration (own_sizes (found_of o.found c).image).activity all lines (start_shown (found_of o.found c).image) (waits (ap is_some has)) was)
        (λ valid some. absurd (let wrong : false ≡ true = sym (ap (λ (q : Option Accepted). is_some q) (mine-left c run.keeper.cabin.cards)) ∙ some in cc)) (h.stays c) (h.since c)
        (λ valid own. subst (λ (q : Option Accepted). HasStays s.number (found_of o.found c) run.keeper.memory.registration (spells_of c so-far) (sits_in run.keeper.cabin.slots.seats c) (on_last (with_end (shut-by shut.0)) (h.stays c)) q (state y)) (sym (mine-left c run.keeper.cabin.cards))
        (stays-closed shut valid (h.stays c) (subst (λ (q : Option Accepted). HasStays s.number (found_of o.found c) run.keeper.memory.registration (spells_of c so-far) (sits_in run.keeper.cabin.slots.seats c) (h.stays c) q (state x)) has own)))
        (λ only shown all. stays-hold whose in_ shut (placed whose (before-closed calm whose known) in_) sat h only (λ valid. subst (λ (q : Option Accepted). HasStays s.number (found_of o.found c) run.keeper.memory.registration (spells_of c so-far) (sits_in run.keeper.cabin.slots.seats c) (h.stays c) q (state x)) has (shown valid)) all)) (λ whose known out_. inl refl) w.stay)
    closed calm placed sat go shut true is powerless = record {
      waits = [];
      cabin = with_session_of c None run.keeper.cabin;
      same = refl;
      odometer = run.keeper.odometer;
      counted = λ lit. refl;
      vehicle = w.vehicle;
      within = closing-fails d e o done s (In n) v w.within slot c called (card-more c U V (state x) (state y) Z cause.breakdowns calm) powerless (broke is) (λ keeping. cc);
    }

    -- or the card fell
    tear-here : IsTearAt s (In n) slot true (tear_of slot at)
    tear-here = (
      n,
      false,
      ap (tear_of slot) moment,
      refl,
      w.within.moment.is,
      λ late. absurd (cc),
    )

    -- the stays of the other card are as they were
    abbrev fell_log : RunLog
    fell_log = log_of (record told { breaks = with_lines (tear_of slot at ∷ []) told.breaks })

    beside-fell : TellsBeside (log_of told) fell_log s.number (In n)
    beside-fell = subst (λ (m : Moment). TellsBeside (log_of told) fell_log m.second (phase_at m)) moment (tears-beside at (tear_of slot at ∷ []) (log_of told) fell_log refl ((slot, refl), tt))

    fell-stay : HasBroken (state x) (state y) 1 → SecondGoesOn o done s (In n) [] None [] (fallen_values (tear_of slot at) c at.second v) e w.within.b w.within.from →
        AllStay o (marked told.marks.items (truths_within o w.within.b.run.log done s)) s.number fell_log (notes_within w.within.b done s (In n) fell_log) run.keeper.memory.registration (torn_out c at.second (with_session_of c None run.keeper.cabin)) e
    fell-stay broken g =
        let floor = λ (k : Card) (low : o.breakdowns (device_of k) < last_count). floor-in o done s (In n) [] None [] v d w.within k low in
        all-fell o (marked told.marks.items (truths_within o w.within.b.run.log done s)) s.number c (log_of told) fell_log slot at refl so-far (notes_within w.within.b done s (In n) fell_log) run.keeper.memory.registration run.keeper.cabin (torn_out c at.second (with_session_of c None run.keeper.cabin)) U V (state x) (state y) Z floor broken
        (others-left c (with_session c None run.keeper.cabin.cards) ∙ others-left c run.keeper.cabin.cards) (torn-other c (other c) at.second (with_session_of c None run.keeper.cabin) (other-apart c)) (λ sl there. torn-slot c (other c) at.second (with_session_of c None run.keeper.cabin) sl there)
        (λ k mine known. spells-unhurt o done s n [] [] [] [] v (fallen_values (tear_of slot at) c at.second v) d e w.within g.within g.began w.within.moment.is w.within.moment.up_to.uncut beside-fell (stood-broken o 1 c U V (state x) (state y) Z floor broken) k (other c) mine known)
        (inl refl) w.stay

    fell : HasBroken (state x) (state y) 1 → (b : Bool) → failed ≡ b → IsPoweredOrOff b o.found (carried_closed Fell c carries) (with_session c None (with_session c None run.keeper.cabin.cards)) e →
        GoesOnOrFails b o done s (In n) [] (with_cabin (torn_out c at.second (with_session_of c None run.keeper.cabin)) run) (record told { breaks = with_lines (tear_of slot at ∷ []) told.breaks }) e w.within.b
    fell broken false is powered =
        let g : SecondGoesOn o done s (In n) [] None [] (fallen_values (tear_of slot at) c at.second v) e w.within.b w.within.from =
        subst (λ (u : ℕ). SecondGoesOn o done s (In n) [] None [] (fallen_values (tear_of slot at) c u v) e w.within.b w.within.from) (sym second)
        (leaving-torn d e o done s (In n) v w.within slot c called (tear_of slot at) tear-here (card-fell c U V (state x) (state y) Z cause.breakdowns (rose-by (state x).breakdowns (state y).breakdowns broken.breakdowns)) powered) in
        goes-as o done s (In n) (In n) [] [] [] run (with_cabin (torn_out c at.second (with_session_of c None run.keeper.cabin)) run) told (record told { breaks = with_lines (tear_of slot at ∷ []) told.breaks }) d e w.within.from w refl refl refl g (fell-stay broken g)
    fell broken true is powerless = record {
      waits = [];
      cabin = torn_out c at.second (with_session_of c None run.keeper.cabin);
      same = refl;
      odometer = run.keeper.odometer;
      counted = λ lit. refl;
      vehicle = w.vehicle;
      within = subst (λ (u : ℕ). RecordAtFailure o done s (In n) [] None (fallen_values (tear_of slot at) c u v) e) (sym second)
          (leaving-tear_fails d e o done s (In n) v w.within slot c called (tear_of slot at) tear-here (card-fell c U V (state x) (state y) Z cause.breakdowns (rose-by (state x).breakdowns (state y).breakdowns broken.breakdowns))
          powerless (broke is) (λ keeping. cc));
    }

  -- where its session is closed no tear is told, and the card has not broken down
  rests-closed : (after : Listed Break) (closing : Closing) → after ≡ with_lines (closed_breaks closing slot at) told.breaks → IsCalm told.breaks.items after.items (state x) (state y) → closing ≡ Closed → (state y).breakdowns ≡ (state x).breakdowns
  rests-closed after closing is calm shut = calm.calm
      (none-told told.breaks.items after.items (closed_breaks closing slot at) (ap (λ (l : Listed Break). l.items) is) (ap (λ (k : Closing). failed_tears (closed_breaks k slot at)) shut))

  -- SO IT IS RECORDED, whatever became of it
  pub closed-recorded : (is_some (session_of run.keeper.cabin.cards c) ≡ true → (whose : Whose) → AreKnown whose o (log_of told) (arranged c U (state x) Z) → covers whose c ≡ true → IsOwnValid (found_of o.found c).image → last_slot (spells_of c (notes_within w.within.b done s (In n) (log_of told))) ≡ Some slot) → (is_some (session_of run.keeper.cabin.cards c) ≡ true → SatHere) → (failed ≡ false → TellMore [] U V) → (new : Run) (after : Listed Break) (closing : Closing) → (closing ≡ Closed → ClosesOnCard slot run.minutes (session_of run.keeper.cabin.cards c) (state x) (state y)) → IsClosed c slot at run new told.breaks after closing →
      IsCalm told.breaks.items after.items (state x) (state y) → HasBroken (state x) (state y) (closed_falls closing) → GoesOnOrFails failed o done s (In n) [] new (record told { breaks = after }) (arranged c V (state y) Z) w.within.b
  closed-recorded placed sat go new after closing shut is calm broken =
      subst (λ (r : Run). GoesOnOrFails failed o done s (In n) [] r (record told { breaks = after }) e w.within.b) (sym is.run)
      (subst (λ (l : Listed Break). GoesOnOrFails failed o done s (In n) [] (with_cabin (closed_cabin closing c at.second run.keeper.cabin) run) (record told { breaks = l }) e w.within.b) (sym is.told)
      (by (session_of run.keeper.cabin.cards c) refl closing shut (rests-closed after closing is.told calm) is.is broken))
    where
      powered : (closing : Closing) → IsClosingOf (session_of run.keeper.cabin.cards c) closing → IsPoweredOrOff failed o.found (carried_closed closing c carries) (closed_cabin closing c at.second run.keeper.cabin).cards e
      powered closing how = closed-any state o.found carries c at.second run.keeper.cabin U V Z x y w.within.found unit_whole whole size w.within.powered left still unit failed cause.works closing how

      by : (q : Option Accepted) → session_of run.keeper.cabin.cards c ≡ q → (closing : Closing) → (closing ≡ Closed → ClosesOnCard slot run.minutes (session_of run.keeper.cabin.cards c) (state x) (state y)) → (closing ≡ Closed → (state y).breakdowns ≡ (state x).breakdowns) → IsClosingOf (session_of run.keeper.cabin.cards c) closing → HasBroken (state x) (state y) (closed_falls closing) →
          GoesOnOrFails failed o done s (In n) [] (with_cabin (closed_cabin closing c at.second run.keeper.cabin) run) (record told { breaks = with_lines (closed_breaks closing slot at) told.breaks }) e w.within.b
      by None has Bare shut rests how broke_ =
          subst (λ (q : Cards). GoesOnOrFails failed o done s (In n) [] (with_cabin (record run.keeper.cabin { cards = q }) run) (record told { breaks = with_lines [] told.breaks }) e w.within.b) (sym (session-unset c run.keeper.cabin.cards has))
          (subst (λ (l : Listed Break). GoesOnOrFails failed o done s (In n) [] run (record told { breaks = l }) e w.within.b) (no-lines told.breaks)
          (subst (λ (z : C). GoesOnOrFails failed o done s (In n) [] run told (arranged c V (state z) Z) w.within.b) (sym (still has)) (unit-any c o done s n run told U V (state x) Z unit_whole unit span stands ends w failed cause go)))
      by None has Closed shut rests how broke_ = absurd (subst (λ (q : Option Accepted). IsClosingOf q Closed) has how)
      by None has Fell shut rests how broke_ = absurd (subst (λ (q : Option Accepted). IsClosingOf q Fell) has how)
      by (Some a) has Bare shut rests how broke_ = absurd (subst (λ (q : Option Accepted). IsClosingOf q Bare) has how)
      by (Some a) has Closed shut rests how broke_ =
          subst (λ (l : Listed Break). GoesOnOrFails failed o done s (In n) [] (with_cabin (with_session_of c None run.keeper.cabin) run) (record told { breaks = l }) e w.within.b) (no-lines told.breaks)
          (closed a has (rests refl) (placed (ap is_some has)) (sat (ap is_some has)) go (subst (λ (q : Option Accepted). ClosesOnCard slot run.minutes q (state x) (state y)) has (shut refl)) failed refl (powered Closed how))
      by (Some a) has Fell shut rests how broke_ = fell a has broke_ failed refl (powered Fell how)

  -- ---- its events

  module _ (small : s.number < 2 ^ 32) (none : NotFound (In n) (other_slot slot) (log_of told) s.number) (follows : MayFollow (In n) slot (log_of told) s) (low : ℕ) (sits_ : CabinIsSound low (Some c) run.keeper.cabin) (actions : List Action) (behind : IsLeft s (In n) actions)
      (now : EventedNow o done s w.within.b.run Acting (log_of told) d) where
    -- it is closed
    closes-evented : (state y).breakdowns ≡ (state x).breakdowns → (a : Accepted) → session_of run.keeper.cabin.cards c ≡ Some a → NotesEvents [] failed d e → EventsGoOn failed o done s w.within.b.run (In n) Acting (log_of told) e
    closes-evented calm a has notes =
        call-evented d e (call-notes d e) (failure-cuts d e) o w.origin.long done s w.within.b.run w.within.b.span (begins-now o w.origin done s (In n) v d w.within) (In n) (log_of told) (log_of told) [] now (none-added o done s (log_of told) (log_of told) e refl)
        (goes a has).left failed notes
        (λ bad. record { waits = []; mid = w.within.b.broken; now = breakdowns_of d; moment = w.within.moment; more = card-more c U V (state x) (state y) Z cause.breakdowns calm; rose = broke bad; rest = actions; left = behind })

    -- or the card fell
    falls-evented : (a : Accepted) → session_of run.keeper.cabin.cards c ≡ Some a → HasBroken (state x) (state y) 1 → (new : Run) → new ≡ with_cabin (torn_out c at.second (with_session_of c None run.keeper.cabin)) run → NotesEvents (closed_events Fell at.second new) failed d e →
        EventsGoOn failed o done s w.within.b.run (In n) Acting (and_break (log_of told) (tear_of slot at)) e
    falls-evented a has broken new is notes =
        let gone : Cabin = torn_out c s.number (with_session_of c None run.keeper.cabin) in
        let cabin_is : new.keeper.cabin ≡ gone = ap (λ (r : Run). r.keeper.cabin) is ∙ ap (λ (u : ℕ). torn_out c u (with_session_of c None run.keeper.cabin)) second in
        let fault : NotesEvents (entry_of CARD_FAULT s.number s.number (crew_of gone) (crew_of gone) ∷ []) failed d e =
        subst (λ (u : ℕ). NotesEvents (entry_of CARD_FAULT u u (crew_of gone) (crew_of gone) ∷ []) failed d e) second
        (subst (λ (b : Cabin). NotesEvents (entry_of CARD_FAULT at.second at.second (crew_of b) (crew_of b) ∷ []) failed d e) cabin_is notes) in
        let leaves = leaving (ap is_some has) in
        call-evented d e (call-notes d e) (failure-cuts d e) o w.origin.long done s w.within.b.run w.within.b.span (begins-now o w.origin done s (In n) v d w.within) (In n) (log_of told) (and_break (log_of told) (tear_of slot at))
        (entry_of CARD_FAULT s.number s.number (crew_of gone) (crew_of gone) ∷ []) now
        (leaving-falls o w.origin done s (In n) v d w.within slot c (s.number / 60) (s.number / 60) leaves low (Some c) sits_ e (tear-adds e) (tear_of slot at) (tear-here a has) none follows small)
        (goes a has).left failed fault
        (λ bad. record {
          waits = [];
          mid = w.within.b.broken;
          now = breakdowns_of e;
          moment = (card-torn w.within.b.run (went w.within.b.run.log done).before s (In n) (log_of told) [] w.within.b.broken (breakdowns_of d) (breakdowns_of e) w.within.moment slot (tear_of slot at) (tear-here a has) (leaves-first (log_of told) (went w.within.b.run.log done).before s (In n) slot (record { phase = In n; slot = slot; card = c }) [] leaves.leaves) leaves.untorn c
              (leaving-out o w.origin done s (In n) v d w.within slot c (s.number / 60) (s.number / 60) leaves low (Some c) sits_)
              (card-fell c U V (state x) (state y) Z cause.breakdowns (rose-by (state x).breakdowns (state y).breakdowns broken.breakdowns))).0;
          more = record { unit = omega arith; cards = λ card. refl };
          rose = broke bad;
          rest = actions;
          left = behind;
        })

    pub closed-evented : (new : Run) (after : Listed Break) (closing : Closing) → IsClosed c slot at run new told.breaks after closing → IsCalm told.breaks.items after.items (state x) (state y) → HasBroken (state x) (state y) (closed_falls closing) → NotesEvents (closed_events closing at.second new) failed d e →
        EventsGoOn failed o done s w.within.b.run (In n) Acting (log_of (record told { breaks = after })) e
    closed-evented new after closing is calm broken notes =
        subst (λ (l : Listed Break). EventsGoOn failed o done s w.within.b.run (In n) Acting (log_of (record told { breaks = l })) e) (sym is.told) (by (session_of run.keeper.cabin.cards c) refl closing (rests-closed after closing is.told calm) is.is is.run broken notes)
      where
        by : (q : Option Accepted) → session_of run.keeper.cabin.cards c ≡ q → (closing : Closing) → (closing ≡ Closed → (state y).breakdowns ≡ (state x).breakdowns) → IsClosingOf (session_of run.keeper.cabin.cards c) closing → new ≡ with_cabin (closed_cabin closing c at.second run.keeper.cabin) run → HasBroken (state x) (state y) (closed_falls closing) →
            NotesEvents (closed_events closing at.second new) failed d e → EventsGoOn failed o done s w.within.b.run (In n) Acting (log_of (record told { breaks = with_lines (closed_breaks closing slot at) told.breaks })) e
        by None has Bare rests how run_is broke_ notes_ =
            let still_ : y ≡ x = still has in
            subst (λ (l : Listed Break). EventsGoOn failed o done s w.within.b.run (In n) Acting (log_of (record told { breaks = l })) e) (no-lines told.breaks)
            (subst (λ (z : C). EventsGoOn failed o done s w.within.b.run (In n) Acting (log_of told) (arranged c V (state z) Z)) (sym still_)
            (any-evented c o done s n run told U V (state x) Z unit_whole unit span stands ends w actions behind failed cause (subst (λ (z : C). NotesEvents [] failed d (arranged c V (state z) Z)) still_ notes_) now))
        by None has Closed rests how run_is broke_ notes_ = absurd (subst (λ (q : Option Accepted). IsClosingOf q Closed) has how)
        by None has Fell rests how run_is broke_ notes_ = absurd (subst (λ (q : Option Accepted). IsClosingOf q Fell) has how)
        by (Some a) has Bare rests how run_is broke_ notes_ = absurd (subst (λ (q : Option Accepted). IsClosingOf q Bare) has how)
        by (Some a) has Closed rests how run_is broke_ notes_ = subst (λ (l : Listed Break). EventsGoOn failed o done s w.within.b.run (In n) Acting (log_of (record told { breaks = l })) e) (no-lines told.breaks) (closes-evented (rests refl) a has notes_)
        by (Some a) has Fell rests how run_is broke_ notes_ = falls-evented a has broke_ new run_is notes_
