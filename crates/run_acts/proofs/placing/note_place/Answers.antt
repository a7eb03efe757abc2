use Rattle.std.proofs.lemmas.Grind.{common_steps}
use Rattle.std.proofs.Common.{rules, ◌≡◌, ◌∙◌, ℕ, Bool, true, false, Option, Some, None, is_some, length, refl, ap, sym, subst, arith, inl, inr, ◌^◌, ◌<◌}
use Rattle.trace_model.specs.declared.Card.TheVariants.{A, B}
use Rattle.tach_media.proofs.Runs.{on_ok, ok_gives, cause_after, no_reads}
use Rattle.unit_model.specs.minute_model.Span.{ungiven_of}
use Rattle.run_crew.specs.card_slots.Calls.{seat_in, card_in, logged}
use Rattle.run_crew.specs.Cards.{session_of}
use Rattle.run_crew.specs.Cabin.{number_of_seat}
use Rattle.log_model.specs.declared.lines.Break.{Break}
use Rattle.run_outcome.specs.Lines.{Listed}
use Rattle.run_minutes.specs.Keeping.{HasLeftMore, with_lines, HasItsRow, UnitMayBeCalled}
use Rattle.run_acts.specs.declared.run.Run.{Run}
use Rattle.run_insertion.proofs.Noted.{noted-ready, noted-row}
use Rattle.run_acts.specs.Acting.{noted_run, IsNotedOn, IsPlaced}
use Rattle.run_acts.proofs.Cabins.{numbered-session}
use Rattle.std.specs.Prelude.{is_err, suc, IfSome, List, [], ◌∷◌, ◌++◌}
use Rattle.std.proofs.lemmas.List.{append-nil}
use Rattle.activity_codec.specs.declared.values.Slot.{Slot}
use Rattle.trace_model.specs.declared.Action.{Action}
use Rattle.trace_model.specs.declared.Action.TheVariants.{Place}
use Rattle.trace_model.specs.Trace.{TraceSecond}
use Rattle.log_model.specs.Log.{In}
use Rattle.log_model.specs.Slots.{refusal, other_slot}
use Rattle.device_calls.specs.safety_model.Safe.{Devices, card_of}
use Rattle.run_minutes.specs.run_promise.Between.{devices}
use Rattle.run_outcome.specs.declared.outcome.Outcome.{Outcome}
use Rattle.run_minutes.specs.run_promise.Origin.{Origin}
use Rattle.run_record.specs.Within.{Beginning}
use Rattle.run_acts.specs.Recording.{RunWithin, RunGoesOn, GoesOnOrFails, IsNow, log_of, values_of, ComesPower}
use Rattle.run_acts.proofs.Comings.{leaves-more, place-more}
use Rattle.run_acts.proofs.NoteRecorded.{noted-some, place-told, unit-recorded, unit-evented, some-evented}
use Rattle.trace_model.specs.declared.Card.{Card}
use Rattle.run_events.specs.gated_ring.Change.{IsAdding}
use Rattle.run_events.specs.message_model.Records.{unit_place_ring}
use Rattle.run_acts.specs.NotedEvents.{NotesEvents}
use Rattle.run_acts.specs.Noting.{NotesPlace, fall_events, IsNoteRecorded}
use Rattle.run_acts.proofs.NotedEvents.{same-noted, noted-any, then-noted}
use Rattle.run_acts.proofs.ActsNoted.{says-of, quiet-any, adding-nothing, none-placed, no-place, same-fell}
use Rattle.run_minutes.proofs.Units.{unit-stays}
use Rattle.tacho_types.specs.declared.card_number.FullCardNumber.{FullCardNumber}
use Rattle.tach_media.specs.Medium.{State, LeavesOnly, HasCause}
use Rattle.unit_notes.specs.Entries.{unit_place_bytes}
use Rattle.run_crew.specs.card_slots.declared.seats.Seat.{Seat}
use Rattle.run_crew.specs.declared.cards.Cards.{Cards}
use Rattle.run_events.proofs.run_rings.Same.{rings-left}
use Rattle.run_acts.specs.Ringing.{WritesPlace}
use Rattle.run_acts.proofs.Ringing.{place-broken, place-then}
use Rattle.run_events.proofs.Newest.{knows-left}
use Rattle.run_events.proofs.NoteSpeeds.{place-leaves}
use Rattle.run_minutes.proofs.Later.{state-by, later-same, later-then, later-of-unit}
use Rattle.run_note_record.specs.Noting.{Acting}
use Rattle.run_note_record.specs.Bringing.{NotFound}
use Rattle.run_note_record.specs.EventsSoFar.{EventedNow, MayFollow}
use Rattle.run_acts.specs.Evented.{EventsGoOn}
use Rattle.run_acts.proofs.FallEvented.{left-over, none-yet}
use Rattle.run_crew.specs.declared.cards.Accepted.{Accepted}
use Rattle.device_calls.specs.CardNotes.{IsNote}
use Rattle.run_acts.proofs.RingedPlace.{IsThere, who-enters, place-goes}
use Rattle.run_acts.specs.CardNotes.{NotesOn, NotesOnCards}
use Rattle.run_acts.proofs.CardNotes.{on-none, both-cards}
use Rattle.run_acts.proofs.CardActs.{place-cards}
use Rattle.run_acts.specs.Stood.{StandsPlace}
use Rattle.run_acts.proofs.Stood.{stand-itself, place-stands, cards-stand}
use Rattle.run_acts.specs.CardWrites.{MayHavePlace, MayTakePlace, PlaceOn}
use Rattle.tacho_types.specs.declared.places.PlaceEntry.{PlaceEntry}
use Rattle.run_minutes.specs.declared.keeper.Moment.{Moment}
use Rattle.run_acts.proofs.CardPlaces.{PlaceCall, call-unbegun, call-made, may-unbegun}
use Rattle.run_acts.proofs.CardWrites.{place-unit, place-bare, place-any, seat-bare}
use Rattle.run_minutes.proofs.Calm.{calm-of-unit, calm-same, calm-then}
use Rattle.run_acts.proofs.OneCard.{OneCard, unit-is, card-is, later-by, calm-by, keeps-by, apart-by, notes-by, known-noted, only-noted, more-noted, room-noted, calm-noted, held-noted, going-noted, none-there, on_a, on_b}
use Rattle.run_minutes.specs.Later.{AreCalm, AreLater}
use Rattle.run_acts.specs.Devices.{AreLeftMore}
use Rattle.run_acts.specs.RunCards.{CardsPlace}
use Rattle.run_acts.specs.RunRinged.{RingsPlace}
use Rattle.run_minutes.specs.run_devices.Told.{arranged}
use Rattle.run_acts.specs.Acts.{NotesPlaceOn}
use Rattle.run_acts.proofs.placing.note_place.Given.{Over}
use Rattle.run_acts.proofs.placing.note_place.Goals.{In_ok-note_place, After-note_place_in, After-note_place_in-in-B}
use Rattle.run_minutes.proofs.Writes.{wrote-none}
use Rattle.run_acts.proofs.placing.note_place.Goals as goal

-- ---- what is known of a place that was noted on the unit

module _ (g : Over) (c : In_ok-note_place g) where
  abbrev first : Devices
  first = devices (g.M.Medium.state c.args.unit.now) (g.C.Chip.state c.args.card_a.now) (g.D.Chip.state c.args.card_b.now)

  abbrev middle : Devices
  middle = devices (g.M.Medium.state c.note_place.new.unit) (g.C.Chip.state c.args.card_a.now) (g.D.Chip.state c.args.card_b.now)

  seat-of : (card : Card) → c.in-Some.card ≡ card → card_in (seat_in c.args.run.now.keeper.cabin.slots.seats c.args.place.slot) ≡ Some card
  seat-of card is = cc

  numbered : number_of_seat c.args.run.now.keeper.cabin.cards (seat_in c.args.run.now.keeper.cabin.slots.seats c.args.place.slot) ≡ Some c.in-Some-number_in.number
  numbered = cc

  some-of : (card : Card) → c.in-Some.card ≡ card → is_some (session_of c.args.run.now.keeper.cabin.cards card) ≡ true
  some-of card is = numbered-session c.args.run.now.keeper.cabin.cards (seat_in c.args.run.now.keeper.cabin.slots.seats c.args.place.slot) card c.in-Some-number_in.number (seat-of card is) numbered

  ready-then : UnitMayBeCalled c.args.run.now.keeper (g.M.Medium.state c.note_place.new.unit)
  ready-then = noted-ready (g.met.M.Medium.coherent c.args.unit.now) (g.met.M.Medium.coherent c.note_place.new.unit) c.note_place.ensures.journal c.args.run.now.keeper c.requires.acting.going.ready.unit_ready c.in_ok-note_place.ensures.alters.cause.works

  quiet : NotesEvents [] false first middle
  quiet = quiet-any (g.M.Medium.state c.args.unit.now) (g.M.Medium.state c.note_place.new.unit) (g.C.Chip.state c.args.card_a.now) (g.D.Chip.state c.args.card_b.now) (g.C.Chip.state c.args.card_a.now) (g.D.Chip.state c.args.card_b.now) false (says-of (g.M.Medium.state c.args.unit.now) (g.M.Medium.state c.note_place.new.unit) (g.met.M.Medium.coherent c.args.unit.now) (IsAdding unit_place_ring (unit_place_bytes c.in-Some-number_in.number c.args.place.entry)) (adding-nothing (unit_place_bytes c.in-Some-number_in.number c.args.place.entry)) c.in_ok-note_place.ensures.alters.moments)

  later-noted : AreLater first middle
  later-noted = later-of-unit (g.M.Medium.state c.args.unit.now) (g.M.Medium.state c.note_place.new.unit) (g.C.Chip.state c.args.card_a.now) (g.D.Chip.state c.args.card_b.now) (state-by (g.M.Medium.state c.args.unit.now) (g.M.Medium.state c.note_place.new.unit) _ c.note_place.ensures.journal.later c.note_place.ensures.alters.cause)
      (place-leaves (unit_place_bytes c.in-Some-number_in.number c.args.place.entry) (g.M.Medium.state c.args.unit.now) (g.M.Medium.state c.note_place.new.unit) (g.met.M.Medium.coherent c.args.unit.now) c.note_place.ensures.alters.moments)

pub note_place_in-requires-clause-may : goal.note_place_in-requires-clause-may
note_place_in-requires-clause-may g c = record {
  ready = ready-then g (goal.at.note_place_in-requires-clause-may g c).In_ok-note_place;
  card = first_of (search rules, grind (arith, common_steps));
  session = first_of (search rules, grind (arith, common_steps));
  minute = first_of (search rules, grind (arith, common_steps));
  second = first_of (search rules, grind (arith, common_steps));
  room = first_of (search rules, grind (arith, common_steps));
}

pub note_place_in-requires-in-B-clause-may : goal.note_place_in-requires-in-B-clause-may
note_place_in-requires-in-B-clause-may g c = record {
  ready = ready-then g (goal.at.note_place_in-requires-in-B-clause-may g c).In_ok-note_place;
  card = first_of (search rules, grind (arith, common_steps));
  session = first_of (search rules, grind (arith, common_steps));
  minute = first_of (search rules, grind (arith, common_steps));
  second = first_of (search rules, grind (arith, common_steps));
  room = first_of (search rules, grind (arith, common_steps));
}

-- ---- and on a card

-- a card with a session was called alone
some-left : (q : Option Accepted) (R : Accepted → List ℕ → List ℕ → Type 0) (X Y : State) → is_some q ≡ true → IfSome q (λ a. LeavesOnly X Y (R a)) → HasLeftMore X Y
some-left None R X Y some h = absurd (cc)
some-left (Some a) R X Y some h = h.keeps

-- what the call makes of the places of its card
call-of : (fell failed : Bool) (card : Card) (old new : Run) (slot : Slot) (at : Moment) (breaks after : Listed Break) (a : Accepted) (entry : PlaceEntry) (X Y : State) → IsNotedOn card slot at old new breaks after fell → session_of old.keeper.cabin.cards card ≡ Some a
    → PlaceOn (session_of old.keeper.cabin.cards card) (session_of new.keeper.cabin.cards card) false entry X Y → MayTakePlace (session_of old.keeper.cabin.cards card) entry X Y → PlaceCall fell failed a.session.application entry X Y
call-of fell failed card old new slot at breaks after a entry X Y noted is on may =
    call-made fell failed a (session_of new.keeper.cabin.cards card) entry X Y (λ stays. ap (λ (r : Run). session_of r.keeper.cabin.cards card) (subst (λ (b : Bool). new ≡ noted_run b card at.second old) stays noted.run) ∙ is)
    (subst (λ (q : Option Accepted). PlaceOn q (session_of new.keeper.cabin.cards card) false entry X Y) is on) (subst (λ (q : Option Accepted). MayTakePlace q entry X Y) is may)

place-first : (o : Origin) (done : List TraceSecond) (s : TraceSecond) (slot : Slot) (ending : Bool) (country region begun speed : ℕ) (run : Run) (before : Outcome) (breaks : Listed Break) (d : Devices) → before.breaks ≡ breaks → IsNow s speed run → (front rest : List Action) → s.actions ≡ front ++ Place slot ending country region ∷ rest →
    begun ≡ suc (length front) → refusal (logged run.keeper.cabin.slots.seats) speed (Place slot ending country region) ≡ None → (w : RunWithin o done s (In (length front)) [] [] run before d) → RunGoesOn o done s (In begun) [] run (record before { breaks = breaks }) d w.within.b
place-first o done s slot ending country region begun speed run before breaks d is now front rest are n allowed w =
    subst (λ (l : Listed Break). RunGoesOn o done s (In begun) [] run (record before { breaks = l }) d w.within.b) is (place-told o done s slot ending country region begun speed run before d now front rest are n allowed w)

module _ (g : Over) (c : In_ok-note_place g) (k : OneCard c.in-Some.card (g.C.Chip.state c.args.card_a.now) (g.D.Chip.state c.args.card_b.now)) (e : NotesPlaceOn k.which c.args.place.slot c.args.place.entry c.args.place.at k.result c.args.run.now k.new c.args.breaks.now k.breaks (g.M.Medium.state c.note_place.new.unit) k.unit (k.state k.before) (k.state k.after) (k.chip k.after)) where
  abbrev start : Devices
  start = arranged k.which (g.M.Medium.state c.args.unit.now) (k.state k.before) k.beside

  abbrev between : Devices
  between = arranged k.which (g.M.Medium.state c.note_place.new.unit) (k.state k.before) k.beside

  abbrev last : Devices
  last = arranged k.which k.unit (k.state k.after) k.beside

  seat : card_in (seat_in c.args.run.now.keeper.cabin.slots.seats c.args.place.slot) ≡ Some k.which
  seat = seat-of g c k.which k.is

  some : is_some (session_of c.args.run.now.keeper.cabin.cards k.which) ≡ true
  some = some-of g c k.which k.is

  rows-then : is_err k.result ≡ false → (card : Card) → HasItsRow c.args.run.now.keeper.cabin.cards (g.M.Medium.state c.args.unit.now) card → HasItsRow k.new.keeper.cabin.cards k.unit card
  rows-then well card h = ok_gives k.result (e.behind.rows card (noted-row (g.met.M.Medium.coherent c.args.unit.now) (g.met.M.Medium.coherent c.note_place.new.unit) c.note_place.ensures.journal c.args.run.now.keeper c.requires.acting.going.ready.unit_ready c.args.run.now.keeper.cabin.cards card h)) well

  -- what is noted on the unit
  notes-fall : (fell : Bool) → NotesEvents (fall_events fell c.args.place.at.second k.new) (is_err k.result) (devices (g.M.Medium.state c.note_place.new.unit) (k.state k.before) (k.state k.before)) (devices k.unit (k.state k.after) (k.state k.after)) → NotesEvents (fall_events fell c.args.place.at.second k.new) (is_err k.result) (middle g c) last
  notes-fall fell notes =
      subst (λ (m : Devices). NotesEvents (fall_events fell c.args.place.at.second k.new) (is_err k.result) m last) (sym (k.beside_it (g.M.Medium.state c.note_place.new.unit)))
      (noted-any (fall_events fell c.args.place.at.second k.new) (is_err k.result) (devices (g.M.Medium.state c.note_place.new.unit) (k.state k.before) (k.state k.before)) (devices k.unit (k.state k.after) (k.state k.after)) between last (unit-is k.which (g.M.Medium.state c.note_place.new.unit) (k.state k.before) k.beside) (unit-is k.which k.unit (k.state k.after) k.beside) notes)

  placed : (fell : Bool) × IsPlaced (card_in (seat_in c.args.run.now.keeper.cabin.slots.seats c.args.place.slot)) c.args.place.slot c.args.place.at c.args.run.now k.new c.args.breaks.now k.breaks fell
  placed = (e.noted.0, subst (λ (q : Option Card). IsPlaced q c.args.place.slot c.args.place.at c.args.run.now k.new c.args.breaks.now k.breaks e.noted.0) (sym seat) e.noted.1)

  events : NotesPlace (card_in (seat_in c.args.run.now.keeper.cabin.slots.seats c.args.place.slot)) c.args.place.slot c.args.place.at (is_err k.result) c.args.run.now k.new c.args.breaks.now k.breaks (first g c) last
  events =
      let n = e.shows.events in
      subst (λ (q : Option Card). NotesPlace q c.args.place.slot c.args.place.at (is_err k.result) c.args.run.now k.new c.args.breaks.now k.breaks (first g c) last) (sym seat)
      (inr (record { fell = n.fell; noted = n.noted; failing = n.failing; notes = then-noted [] (fall_events n.fell c.args.place.at.second k.new) (is_err k.result) (first g c) (middle g c) last (quiet g c) (notes-fall n.fell n.notes) }))

  writes : is_some (g.M.Medium.state c.args.unit.now).image ≡ true → WritesPlace (number_of_seat c.args.run.now.keeper.cabin.cards (seat_in c.args.run.now.keeper.cabin.slots.seats c.args.place.slot)) c.args.place.entry (is_err k.result) (g.M.Medium.state c.args.unit.now) k.unit
  writes tells =
      let n = c.in_ok-note_place.ensures in
      subst (λ (o : Option FullCardNumber). WritesPlace o c.args.place.entry (is_err k.result) (g.M.Medium.state c.args.unit.now) k.unit) (sym (numbered g c))
      (place-then (unit_place_bytes c.in-Some-number_in.number c.args.place.entry) (g.M.Medium.state c.args.unit.now) (g.M.Medium.state c.note_place.new.unit) k.unit (g.met.M.Medium.coherent c.args.unit.now) (g.met.M.Medium.coherent c.note_place.new.unit) tells c.note_place.ensures.alters.moments (is_err k.result) n.alters.done n.alters.cause.works e.shows.rings)

  later : AreLater (first g c) last
  later =
      later-then (first g c) (middle g c) last (later-noted g c)
      (subst (λ (m : Devices). AreLater m last) (sym (k.beside_it (g.M.Medium.state c.note_place.new.unit)))
      (later-by k.which (g.M.Medium.state c.note_place.new.unit) k.unit (k.state k.before) (k.state k.after) k.beside (state-by (g.M.Medium.state c.note_place.new.unit) k.unit _ e.writes.journal.later e.behind.cause) (state-by (k.state k.before) (k.state k.after) e.noted.0 e.clock_card e.noted.3) e.writes.speeds))

  calm : AreCalm c.args.breaks.now.items k.breaks.items (first g c) last
  calm =
      calm-then (first g c) (middle g c) last (calm-of-unit (g.M.Medium.state c.args.unit.now) (g.M.Medium.state c.note_place.new.unit) (g.C.Chip.state c.args.card_a.now) (g.D.Chip.state c.args.card_b.now))
      (subst (λ (m : Devices). AreCalm c.args.breaks.now.items k.breaks.items m last) (sym (k.beside_it (g.M.Medium.state c.note_place.new.unit)))
      (calm-by k.which (g.M.Medium.state c.note_place.new.unit) k.unit (k.state k.before) (k.state k.after) k.beside (calm-noted k.which c.args.place.slot c.args.place.at c.args.run.now k.new c.args.breaks.now k.breaks e.noted.0 e.noted.1 (k.state k.before) (k.state k.after) e.noted.3)))

  -- on the cards
  card-events : NotesOnCards false c.args.run.now.keeper.cabin.cards k.new.keeper.cabin.cards (λ card. []) (first g c) last
  card-events =
      subst (λ (m : Devices). NotesOnCards false c.args.run.now.keeper.cabin.cards k.new.keeper.cabin.cards (λ card. []) m last) (sym (k.beside_it (g.M.Medium.state c.args.unit.now)))
      (notes-by k.which c.args.run.now.keeper.cabin.cards k.new.keeper.cabin.cards (g.M.Medium.state c.args.unit.now) k.unit (k.state k.before) (k.state k.after) k.beside e.shows.card_events (known-noted k.which c.args.place.slot c.args.place.at c.args.run.now k.new c.args.breaks.now k.breaks e.noted.0 e.noted.1))

  keeps : AreLeftMore (first g c) last
  keeps =
      keeps-by k.which (first g c) (g.M.Medium.state c.note_place.new.unit) k.unit (k.state k.before) (k.state k.after) k.beside (subst (λ (m : Devices). AreLeftMore (first g c) m) (k.beside_it (g.M.Medium.state c.note_place.new.unit)) (record { unit = c.note_place.ensures.journal.keeps; card_a = λ t x le at. at; card_b = λ t x le at. at }))
      (subst (λ (m : Devices). AreLater (first g c) m) (k.beside_it (g.M.Medium.state c.note_place.new.unit)) (later-noted g c)) e.writes.journal.keeps
      (some-left (session_of c.args.run.now.keeper.cabin.cards k.which) (λ a. IsNote a.session.application) (k.state k.before) (k.state k.after) some e.known.moments)

  shown : CardsPlace c.args.place.slot c.args.place.at (is_err k.result) c.args.run.now c.args.breaks.now k.breaks (first g c) last
  shown = place-cards c.args.place.slot c.args.place.at (is_err k.result) e.noted.0 c.args.run.now k.new c.args.breaks.now k.breaks (first g c) last c.requires.at e.noted.1.told card-events keeps later

  ringed : RingsPlace c.args.place.slot c.args.place.entry c.args.place.at (is_err k.result) c.args.run.now k.new c.args.breaks.now k.breaks (first g c) last
  ringed =
      let lit = c.requires.acting.going in
      subst (λ (m : Devices). RingsPlace c.args.place.slot c.args.place.entry c.args.place.at (is_err k.result) c.args.run.now k.new c.args.breaks.now k.breaks m last) (sym (k.beside_it (g.M.Medium.state c.args.unit.now)))
      (place-goes c.args.place.slot c.args.place.entry c.args.place.at (is_err k.result) c.args.run.now k.new c.args.breaks.now k.breaks start last k.which c.in-Some-number_in.number e.noted.0 seat (numbered g c)
      some (ungiven_of lit.span) lit.cabin c.requires.at c.requires.acting.small e.noted.1
      (λ tells. subst (λ (x : State). WritesPlace (Some c.in-Some-number_in.number) c.args.place.entry (is_err k.result) start.unit x) (unit-is k.which k.unit (k.state k.after) k.beside)
      (subst (λ (x : State). WritesPlace (Some c.in-Some-number_in.number) c.args.place.entry (is_err k.result) x k.unit) (unit-is k.which (g.M.Medium.state c.args.unit.now) (k.state k.before) k.beside)
      (subst (λ (o : Option FullCardNumber). WritesPlace o c.args.place.entry (is_err k.result) (g.M.Medium.state c.args.unit.now) k.unit) (numbered g c) (writes (subst (λ (x : State). is_some x.image ≡ true) (sym (unit-is k.which (g.M.Medium.state c.args.unit.now) (k.state k.before) k.beside)) tells)))))
      (subst (λ (m : Devices). AreLeftMore m last) (k.beside_it (g.M.Medium.state c.args.unit.now)) keeps)
      (λ a at_. (
        subst (λ (x : State). PlaceCall e.noted.0 (is_err k.result) a.session.application c.args.place.entry (card_of start k.which) x) (card-is k.which k.unit (k.state k.after) k.beside)
            (subst (λ (x : State). PlaceCall e.noted.0 (is_err k.result) a.session.application c.args.place.entry x (k.state k.after)) (card-is k.which (g.M.Medium.state c.args.unit.now) (k.state k.before) k.beside)
            (call-of e.noted.0 (is_err k.result) k.which c.args.run.now k.new c.args.place.slot c.args.place.at c.args.breaks.now k.breaks a c.args.place.entry (k.state k.before) (k.state k.after) e.noted.1 at_ e.shows.on_card e.shows.places)),
        subst (λ (x : State). MayHavePlace a.session.application c.args.place.entry (card_of start k.which) x) (card-is k.which k.unit (k.state k.after) k.beside)
            (subst (λ (x : State). MayHavePlace a.session.application c.args.place.entry x (k.state k.after)) (card-is k.which (g.M.Medium.state c.args.unit.now) (k.state k.before) k.beside)
            (subst (λ (q : Option Accepted). MayTakePlace q c.args.place.entry (k.state k.before) (k.state k.after)) at_ e.shows.places)),
      ))
      (λ j apart. apart-by k.which (g.M.Medium.state c.args.unit.now) k.unit (k.state k.before) (k.state k.after) k.beside j apart))

  stands_ : StandsPlace c.args.place.slot c.args.place.at c.args.run.now c.args.breaks.now (first g c) last
  stands_ =
      subst (λ (m : Devices). StandsPlace c.args.place.slot c.args.place.at c.args.run.now c.args.breaks.now m last) (sym (k.beside_it (g.M.Medium.state c.args.unit.now)))
      (place-stands c.args.place.slot c.args.place.entry c.args.place.at c.args.run.now c.args.breaks.now start last k.which some
      (subst (λ (m : Devices). AreLeftMore m last) (k.beside_it (g.M.Medium.state c.args.unit.now)) keeps)
      (λ a at_.
      subst (λ (x : State). MayHavePlace a.session.application c.args.place.entry (card_of start k.which) x) (card-is k.which k.unit (k.state k.after) k.beside)
      (subst (λ (x : State). MayHavePlace a.session.application c.args.place.entry x (k.state k.after)) (card-is k.which (g.M.Medium.state c.args.unit.now) (k.state k.before) k.beside)
      (subst (λ (q : Option Accepted). MayTakePlace q c.args.place.entry (k.state k.before) (k.state k.after)) at_ e.shows.places)))
      (λ j apart. apart-by k.which (g.M.Medium.state c.args.unit.now) k.unit (k.state k.before) (k.state k.after) k.beside j apart))

  on-card : (card : Card) → card_in (seat_in c.args.run.now.keeper.cabin.slots.seats c.args.place.slot) ≡ Some card → PlaceOn (session_of c.args.run.now.keeper.cabin.cards card) (session_of k.new.keeper.cabin.cards card) (is_err k.result) c.args.place.entry (card_of (first g c) card) (card_of last card)
  on-card card there =
      let is : k.which ≡ card = (let mine = seat in cc) in
      subst (λ (j : Card). PlaceOn (session_of c.args.run.now.keeper.cabin.cards j) (session_of k.new.keeper.cabin.cards j) (is_err k.result) c.args.place.entry (card_of (first g c) j) (card_of last j)) is
      (subst (λ (m : Devices). PlaceOn (session_of c.args.run.now.keeper.cabin.cards k.which) (session_of k.new.keeper.cabin.cards k.which) (is_err k.result) c.args.place.entry (card_of m k.which) (card_of last k.which)) (sym (k.beside_it (g.M.Medium.state c.args.unit.now)))
      (subst (λ (x : State). PlaceOn (session_of c.args.run.now.keeper.cabin.cards k.which) (session_of k.new.keeper.cabin.cards k.which) (is_err k.result) c.args.place.entry (card_of start k.which) x) (card-is k.which k.unit (k.state k.after) k.beside)
      (subst (λ (x : State). PlaceOn (session_of c.args.run.now.keeper.cabin.cards k.which) (session_of k.new.keeper.cabin.cards k.which) (is_err k.result) c.args.place.entry x (k.state k.after)) (card-is k.which (g.M.Medium.state c.args.unit.now) (k.state k.before) k.beside)
      (place-any c.args.place.entry (k.state k.before) (k.state k.after) (session_of c.args.run.now.keeper.cabin.cards k.which) (session_of k.new.keeper.cabin.cards k.which) (is_err k.result) e.shows.on_card))))

  -- in a second of a trace, behind the actions before it
  module _ (late : c.args.place.at.late ≡ false) (ending : Bool) (country region speed : ℕ) (before : Outcome) (is : before.breaks ≡ c.args.breaks.now) (o : Origin) (done : List TraceSecond) (s : TraceSecond) (now : IsNow s speed c.args.run.now) (front rest : List Action)
      (are : s.actions ≡ front ++ Place c.args.place.slot ending country region ∷ rest) (n : c.args.place.at.begun ≡ suc (length front)) (allowed : refusal (logged c.args.run.now.keeper.cabin.slots.seats) speed (Place c.args.place.slot ending country region) ≡ None)
      (w : RunWithin o done s (In (length front)) [] [] c.args.run.now before (first g c)) where
    on-unit : RunGoesOn o done s (In c.args.place.at.begun) [] c.args.run.now (record before { breaks = c.args.breaks.now }) (first g c) w.within.b
    on-unit = place-first o done s c.args.place.slot ending country region c.args.place.at.begun speed c.args.run.now before c.args.breaks.now (first g c) is now front rest are n allowed w

    behind-unit : RunGoesOn o done s (In c.args.place.at.begun) [] c.args.run.now (record before { breaks = c.args.breaks.now }) (middle g c) on-unit.goes.within.b
    behind-unit =
        let lit = c.requires.acting.going in
        unit-recorded o done s c.args.place.at.begun c.args.run.now (record before { breaks = c.args.breaks.now }) (g.M.Medium.state c.args.unit.now) (g.M.Medium.state c.note_place.new.unit) (g.C.Chip.state c.args.card_a.now) (g.D.Chip.state c.args.card_b.now) (g.met.M.Medium.coherent c.args.unit.now) c.note_place.ensures.journal lit.span lit.stands lit.next on-unit.goes false c.in_ok-note_place.ensures.alters.cause
        (λ fine. place-more (unit_place_bytes c.in-Some-number_in.number c.args.place.entry) (g.M.Medium.state c.args.unit.now) (g.M.Medium.state c.note_place.new.unit) (g.met.M.Medium.coherent c.args.unit.now) c.note_place.ensures.alters.moments)

    not-first : In c.args.place.at.begun ≡ In 0 → ComesPower done (record before { breaks = c.args.breaks.now })
    not-first zeroth = absurd (let none : c.args.place.at.begun ≡ 0 = cc in omega (arith, none, n))

    recorded : GoesOnOrFails (is_err k.result) o done s (In c.args.place.at.begun) [] k.new (record before { breaks = k.breaks }) last w.within.b
    recorded =
        let lit = c.requires.acting.going in
        subst (λ (b : Beginning). GoesOnOrFails (is_err k.result) o done s (In c.args.place.at.begun) [] k.new (record before { breaks = k.breaks }) last b) (behind-unit.began ∙ on-unit.began)
        (subst (λ (m : Devices). IsNoteRecorded (In c.args.place.at.begun) (is_err k.result) c.args.run.now k.new c.args.breaks.now k.breaks m last) (sym (k.beside_it (g.M.Medium.state c.note_place.new.unit)))
        (noted-some k.which c.args.place.slot c.args.place.at c.args.run.now c.args.breaks.now (g.M.Medium.state c.note_place.new.unit) k.unit (k.state k.before) (k.state k.after) k.beside
        (g.met.M.Medium.coherent c.note_place.new.unit) k.whole k.whole_after k.size some e.known.value seat c.requires.at late lit.span lit.stands lit.next lit.cabin e.known.moments e.writes.journal
        (is_err k.result) e.behind.cause (λ fine. leaves-more (g.M.Medium.state c.note_place.new.unit) k.unit e.shows.rings) k.new k.breaks e.noted.0 e.noted.1 e.noted.2 e.noted.3)
        o done s before behind-unit.goes not-first)

    small : s.number < 2 ^ 32
    small = let low = c.requires.acting.small in let same = now.number in omega (arith, low, same)

    -- where its second noted what is told so far
    abbrev Goes : Devices → Type 0
    Goes m = (v : RunWithin o done s (In c.args.place.at.begun) [] [] c.args.run.now (record before { breaks = c.args.breaks.now }) m) → NotesEvents (fall_events e.noted.0 c.args.place.at.second k.new) (is_err k.result) m last
        → EventedNow o done s v.within.b.run Acting (log_of (record before { breaks = c.args.breaks.now })) m → EventsGoOn (is_err k.result) o done s v.within.b.run (In c.args.place.at.begun) Acting (log_of (record before { breaks = k.breaks })) last

    evented : EventedNow o done s w.within.b.run Acting (log_of before) (first g c) → EventsGoOn (is_err k.result) o done s w.within.b.run (In c.args.place.at.begun) Acting (log_of (record before { breaks = k.breaks })) last
    evented events_ =
        let lit = c.requires.acting.going in
        let f = e.shows.events in
        let begun : ℕ = c.args.place.at.begun in
        let left = left-over front rest (Place c.args.place.slot ending country region) s begun n are in
        let yet = subst (λ (l : Listed Break). NotFound (In begun) (other_slot c.args.place.slot) (log_of (record before { breaks = l })) s.number) is (none-yet o done s (length front) begun (values_of c.args.run.now before) (first g c) w.within n (other_slot c.args.place.slot)).0 in
        let follows = subst (λ (l : Listed Break). MayFollow (In begun) c.args.place.slot (log_of (record before { breaks = l })) s) is (none-yet o done s (length front) begun (values_of c.args.run.now before) (first g c) w.within n c.args.place.slot).1 in
        let now_first : EventedNow o done s on-unit.goes.within.b.run Acting (log_of (record before { breaks = c.args.breaks.now })) (first g c) = subst (λ (b : Beginning). EventedNow o done s b.run Acting (log_of (record before { breaks = c.args.breaks.now })) (first g c)) (sym on-unit.began)
        (subst (λ (l : Listed Break). EventedNow o done s w.within.b.run Acting (log_of (record before { breaks = l })) (first g c)) is events_) in
        let now_second : EventedNow o done s behind-unit.goes.within.b.run Acting (log_of (record before { breaks = c.args.breaks.now })) (middle g c) = subst (λ (b : Beginning). EventedNow o done s b.run Acting (log_of (record before { breaks = c.args.breaks.now })) (middle g c)) (sym behind-unit.began)
        (unit-evented o done s begun c.args.run.now (record before { breaks = c.args.breaks.now }) (g.M.Medium.state c.args.unit.now) (g.M.Medium.state c.note_place.new.unit) (g.C.Chip.state c.args.card_a.now) (g.D.Chip.state c.args.card_b.now) (g.met.M.Medium.coherent c.args.unit.now) c.note_place.ensures.journal lit.span lit.stands lit.next on-unit.goes rest left false c.in_ok-note_place.ensures.alters.cause (quiet g c) now_first) in
        let fell : f.fell ≡ e.noted.0 = same-fell k.which c.args.place.slot c.args.place.at c.args.run.now k.new c.args.breaks.now k.breaks f.fell e.noted.0 f.noted e.noted.1 in
        let notes : NotesEvents (fall_events e.noted.0 c.args.place.at.second k.new) (is_err k.result) (middle g c) last = subst (λ (b : Bool). NotesEvents (fall_events b c.args.place.at.second k.new) (is_err k.result) (middle g c) last) fell (notes-fall f.fell f.notes) in
        let goes : Goes (middle g c) = subst Goes (sym (k.beside_it (g.M.Medium.state c.note_place.new.unit)))
        (λ v notes_ now_. some-evented k.which c.args.place.slot c.args.place.at c.args.run.now c.args.breaks.now (g.M.Medium.state c.note_place.new.unit) k.unit (k.state k.before) (k.state k.after) k.beside
        (g.met.M.Medium.coherent c.note_place.new.unit) k.whole k.whole_after k.size some e.known.value seat c.requires.at late lit.span lit.stands lit.next lit.cabin e.known.moments e.writes.journal
        (is_err k.result) e.behind.cause o done s before v not-first small yet follows rest left e.noted.0 k.new k.breaks e.noted.1 e.noted.2 e.noted.3 notes_ now_) in
        subst (λ (b : Beginning). EventsGoOn (is_err k.result) o done s b.run (In begun) Acting (log_of (record before { breaks = k.breaks })) last) (behind-unit.began ∙ on-unit.began) (goes behind-unit.goes notes now_second)

module _ (g : Over) (c : After-note_place_in g) where
  abbrev noted-first-a : In_ok-note_place g
  noted-first-a = (goal.at.returns-in-A-clause-behind g c).In_ok-note_place

  abbrev side-a : OneCard noted-first-a.in-Some.card (g.C.Chip.state c.args.card_a.now) (g.D.Chip.state c.args.card_b.now)
  side-a =
      on_a g.C.Chip.state g.C.Chip.card g.met.C.Chip.coherent c.args.card_a.now c.note_place_in.new.card c.requires.acting.held.card_a.size (g.D.Chip.state c.args.card_b.now) (g.M.Medium.state c.note_place_in.new.unit) (g.met.M.Medium.coherent c.note_place_in.new.unit) c.note_place_in.new.run c.note_place_in.new.breaks c.note_place_in.result
      noted-first-a.in-Some.card c.in-A.is

module _ (g : Over) (c : After-note_place_in-in-B g) where
  abbrev noted-first-b : In_ok-note_place g
  noted-first-b = (goal.at.returns-in-B-clause-behind g c).In_ok-note_place

  abbrev side-b : OneCard noted-first-b.in-Some.card (g.C.Chip.state c.args.card_a.now) (g.D.Chip.state c.args.card_b.now)
  side-b =
      on_b g.D.Chip.state g.D.Chip.card g.met.D.Chip.coherent c.args.card_b.now c.note_place_in-in-B.new.card c.requires.acting.held.card_b.size (g.C.Chip.state c.args.card_a.now) (g.M.Medium.state c.note_place_in-in-B.new.unit) (g.met.M.Medium.coherent c.note_place_in-in-B.new.unit) c.note_place_in-in-B.new.run c.note_place_in-in-B.new.breaks c.note_place_in-in-B.result
      noted-first-b.in-Some.card c.in-B.is

-- ---- nobody is there to enter it for

no-number : (cards : Cards) (seat : Option Seat) (o : Option Card) → o ≡ card_in seat → ((card : Card) → o ≡ Some card → ⊥) → number_of_seat cards seat ≡ None
no-number cards None o is never = refl
no-number cards (Some s) o is never = absurd (never s.card is)

-- nobody is refused who has none to enter for
no-entering : {T : Type 0} (cards : Cards) (seat : Option Seat) (there : IsThere cards seat) → number_of_seat cards seat ≡ None → T
no-entering {T} cards seat there none = absurd (let clash : Some there.number ≡ None = sym there.numbered ∙ none in cc)

pub returns-in_default-clause-placed : goal.returns-in_default-clause-placed
returns-in_default-clause-placed g c = record {
  card = (false, none-placed (card_in (seat_in c.args.run.now.keeper.cabin.slots.seats c.args.place.slot)) c.args.place.slot c.args.place.at c.args.run.now c.args.breaks.now);
  run = refl;
  room = (refl, omega arith);
}

pub returns-in_default-clause-leaves : goal.returns-in_default-clause-leaves
returns-in_default-clause-leaves g c = record {
  card_events =
      let d = devices (g.M.Medium.state c.args.unit.now) (g.C.Chip.state c.args.card_a.now) (g.D.Chip.state c.args.card_b.now) in
      λ card. on-none false (session_of c.args.run.now.keeper.cabin.cards card) (card_of d card);
  on_card =
      λ card there.
      let none : card_in (seat_in c.args.run.now.keeper.cabin.slots.seats c.args.place.slot) ≡ None = sym c.card.ensures ∙ none-there c.card.result c.in_default.not-Some in
      absurd (let wrong : None ≡ Some card = sym none ∙ there in cc);
  events =
      let run = c.args.run.now in
      let U = g.M.Medium.state c.args.unit.now in
      let A0 = g.C.Chip.state c.args.card_a.now in
      let B0 = g.D.Chip.state c.args.card_b.now in
      no-place (card_in (seat_in run.keeper.cabin.slots.seats c.args.place.slot)) c.args.place.slot c.args.place.at run c.args.breaks.now (devices U A0 B0) (same-noted U A0 B0);
  rings =
      λ tells.
      let run = c.args.run.now in
      let U = g.M.Medium.state c.args.unit.now in
      let none = no-number run.keeper.cabin.cards (seat_in run.keeper.cabin.slots.seats c.args.place.slot) c.card.result c.card.ensures c.in_default.not-Some in
      subst (λ (o : Option FullCardNumber). WritesPlace o c.args.place.entry false U U) (sym none) (rings-left U);
}

pub returns-in_default-clause-promises : goal.returns-in_default-clause-promises
returns-in_default-clause-promises g c = record {
  recorded =
      λ late ending country region speed before is o done s now front rest are n allowed w time.
      place-first o done s c.args.place.slot ending country region c.args.place.at.begun speed c.args.run.now before c.args.breaks.now (devices (g.M.Medium.state c.args.unit.now) (g.C.Chip.state c.args.card_a.now) (g.D.Chip.state c.args.card_b.now)) is now front rest are n allowed w;
  evented =
      λ late ending country region speed before is o done s now front rest are n allowed w events time.
      let d : Devices = devices (g.M.Medium.state c.args.unit.now) (g.C.Chip.state c.args.card_a.now) (g.D.Chip.state c.args.card_b.now) in
      subst (λ (l : Listed Break). EventedNow o done s w.within.b.run Acting (log_of (record before { breaks = l })) d) is events;
  ringed =
      λ ending country region now late speed before is o done s here front rest are n allowed w spans t rings time.
      let cabin = c.args.run.now.keeper.cabin in
      let lit = c.requires.acting.going in
      no-entering cabin.cards (seat_in cabin.slots.seats c.args.place.slot) (who-enters (ungiven_of lit.span) cabin lit.cabin c.args.place.slot speed ending country region allowed)
      (no-number cabin.cards (seat_in cabin.slots.seats c.args.place.slot) c.card.result c.card.ensures c.in_default.not-Some);
  cards =
      λ late ending country region speed before is o done s here front rest are n allowed vehicle w cards time.
      let cabin = c.args.run.now.keeper.cabin in
      let lit = c.requires.acting.going in
      no-entering cabin.cards (seat_in cabin.slots.seats c.args.place.slot) (who-enters (ungiven_of lit.span) cabin lit.cabin c.args.place.slot speed ending country region allowed)
      (no-number cabin.cards (seat_in cabin.slots.seats c.args.place.slot) c.card.result c.card.ensures c.in_default.not-Some);
  stands = λ late ending country region speed before is o done s here front rest are n allowed w time. stand-itself o (devices (g.M.Medium.state c.args.unit.now) (g.C.Chip.state c.args.card_a.now) (g.D.Chip.state c.args.card_b.now));
}

pub returns-in_default-clause-behind : goal.returns-in_default-clause-behind
returns-in_default-clause-behind g c = record {
  held =
      record {
        held = c.requires.acting.held;
        cause = (no_reads (g.M.Medium.state c.args.unit.now) c.requires.acting.going.ready.unit_ready.works).cause;
      };
  going = first_of (search rules, grind (arith, common_steps));
}

pub returns-in_default-clause-goes : goal.returns-in_default-clause-goes
returns-in_default-clause-goes g c = record {
  later = later-same (devices (g.M.Medium.state c.args.unit.now) (g.C.Chip.state c.args.card_a.now) (g.D.Chip.state c.args.card_b.now));
  calm = calm-same (devices (g.M.Medium.state c.args.unit.now) (g.C.Chip.state c.args.card_a.now) (g.D.Chip.state c.args.card_b.now));
  more = omega arith;
  most = wrote-none 9 5 (devices (g.M.Medium.state c.args.unit.now) (g.C.Chip.state c.args.card_a.now) (g.D.Chip.state c.args.card_b.now));
}

pub returns-in_default-number_in-clause-placed : goal.returns-in_default-number_in-clause-placed
returns-in_default-number_in-clause-placed g c = record {
  card = (false, none-placed (card_in (seat_in c.args.run.now.keeper.cabin.slots.seats c.args.place.slot)) c.args.place.slot c.args.place.at c.args.run.now c.args.breaks.now);
  run = refl;
  room = (refl, omega arith);
}

pub returns-in_default-number_in-clause-leaves : goal.returns-in_default-number_in-clause-leaves
returns-in_default-number_in-clause-leaves g c = record {
  card_events =
      let d = devices (g.M.Medium.state c.args.unit.now) (g.C.Chip.state c.args.card_a.now) (g.D.Chip.state c.args.card_b.now) in
      λ card. on-none false (session_of c.args.run.now.keeper.cabin.cards card) (card_of d card);
  on_card =
      λ card there.
      let run = c.args.run.now in
      let cards = run.keeper.cabin.cards in
      let d = devices (g.M.Medium.state c.args.unit.now) (g.C.Chip.state c.args.card_a.now) (g.D.Chip.state c.args.card_b.now) in
      let unnamed : number_of_seat cards (seat_in run.keeper.cabin.slots.seats c.args.place.slot) ≡ None = sym c.number_in.ensures ∙ none-there c.number_in.result c.in_default-number_in.not-Some in
      place-bare c.args.place.entry (card_of d card) (card_of d card) (session_of cards card) (session_of cards card) false
      (seat-bare cards (seat_in run.keeper.cabin.slots.seats c.args.place.slot) card c.requires.acting.going.ready.card_a.is_known c.requires.acting.going.ready.card_b.is_known unnamed there);
  events =
      let run = c.args.run.now in
      let U = g.M.Medium.state c.args.unit.now in
      let A0 = g.C.Chip.state c.args.card_a.now in
      let B0 = g.D.Chip.state c.args.card_b.now in
      no-place (card_in (seat_in run.keeper.cabin.slots.seats c.args.place.slot)) c.args.place.slot c.args.place.at run c.args.breaks.now (devices U A0 B0) (same-noted U A0 B0);
  rings =
      λ tells.
      let run = c.args.run.now in
      let U = g.M.Medium.state c.args.unit.now in
      let none : number_of_seat run.keeper.cabin.cards (seat_in run.keeper.cabin.slots.seats c.args.place.slot) ≡ None = sym c.number_in.ensures ∙ none-there c.number_in.result c.in_default-number_in.not-Some in
      subst (λ (o : Option FullCardNumber). WritesPlace o c.args.place.entry false U U) (sym none) (rings-left U);
}

pub returns-in_default-number_in-clause-promises : goal.returns-in_default-number_in-clause-promises
returns-in_default-number_in-clause-promises g c = record {
  recorded =
      λ late ending country region speed before is o done s now front rest are n allowed w time.
      place-first o done s c.args.place.slot ending country region c.args.place.at.begun speed c.args.run.now before c.args.breaks.now (devices (g.M.Medium.state c.args.unit.now) (g.C.Chip.state c.args.card_a.now) (g.D.Chip.state c.args.card_b.now)) is now front rest are n allowed w;
  evented =
      λ late ending country region speed before is o done s now front rest are n allowed w events time.
      let d : Devices = devices (g.M.Medium.state c.args.unit.now) (g.C.Chip.state c.args.card_a.now) (g.D.Chip.state c.args.card_b.now) in
      subst (λ (l : Listed Break). EventedNow o done s w.within.b.run Acting (log_of (record before { breaks = l })) d) is events;
  ringed =
      λ ending country region now late speed before is o done s here front rest are n allowed w spans t rings time.
      let cabin = c.args.run.now.keeper.cabin in
      let lit = c.requires.acting.going in
      no-entering cabin.cards (seat_in cabin.slots.seats c.args.place.slot) (who-enters (ungiven_of lit.span) cabin lit.cabin c.args.place.slot speed ending country region allowed)
      (sym c.number_in.ensures ∙ none-there c.number_in.result c.in_default-number_in.not-Some);
  cards =
      λ late ending country region speed before is o done s here front rest are n allowed vehicle w cards time.
      let cabin = c.args.run.now.keeper.cabin in
      let lit = c.requires.acting.going in
      no-entering cabin.cards (seat_in cabin.slots.seats c.args.place.slot) (who-enters (ungiven_of lit.span) cabin lit.cabin c.args.place.slot speed ending country region allowed)
      (sym c.number_in.ensures ∙ none-there c.number_in.result c.in_default-number_in.not-Some);
  stands = λ late ending country region speed before is o done s here front rest are n allowed w time. stand-itself o (devices (g.M.Medium.state c.args.unit.now) (g.C.Chip.state c.args.card_a.now) (g.D.Chip.state c.args.card_b.now));
}

pub returns-in_default-number_in-clause-behind : goal.returns-in_default-number_in-clause-behind
returns-in_default-number_in-clause-behind g c = record {
  held =
      record {
        held = c.requires.acting.held;
        cause = (no_reads (g.M.Medium.state c.args.unit.now) c.requires.acting.going.ready.unit_ready.works).cause;
      };
  going = first_of (search rules, grind (arith, common_steps));
}

pub returns-in_default-number_in-clause-goes : goal.returns-in_default-number_in-clause-goes
returns-in_default-number_in-clause-goes g c = record {
  later = later-same (devices (g.M.Medium.state c.args.unit.now) (g.C.Chip.state c.args.card_a.now) (g.D.Chip.state c.args.card_b.now));
  calm = calm-same (devices (g.M.Medium.state c.args.unit.now) (g.C.Chip.state c.args.card_a.now) (g.D.Chip.state c.args.card_b.now));
  more = omega arith;
  most = wrote-none 9 5 (devices (g.M.Medium.state c.args.unit.now) (g.C.Chip.state c.args.card_a.now) (g.D.Chip.state c.args.card_b.now));
}

-- ---- the note on the unit fails

pub returns-in_err-note_place-clause-placed : goal.returns-in_err-note_place-clause-placed
returns-in_err-note_place-clause-placed g c = record {
  card = (false, none-placed (card_in (seat_in c.args.run.now.keeper.cabin.slots.seats c.args.place.slot)) c.args.place.slot c.args.place.at c.args.run.now c.args.breaks.now);
  run = refl;
  room = (refl, omega arith);
}

pub returns-in_err-note_place-clause-leaves : goal.returns-in_err-note_place-clause-leaves
returns-in_err-note_place-clause-leaves g c = record {
  card_events =
      let run = c.args.run.now in
      both-cards (λ card. NotesOn false (session_of run.keeper.cabin.cards card) (session_of run.keeper.cabin.cards card) []
      (card_of (devices (g.M.Medium.state c.args.unit.now) (g.C.Chip.state c.args.card_a.now) (g.D.Chip.state c.args.card_b.now)) card) (card_of (devices (g.M.Medium.state c.note_place.new.unit) (g.C.Chip.state c.args.card_a.now) (g.D.Chip.state c.args.card_b.now)) card))
      (on-none false (session_of run.keeper.cabin.cards A) (g.C.Chip.state c.args.card_a.now)) (on-none false (session_of run.keeper.cabin.cards B) (g.D.Chip.state c.args.card_b.now));
  on_card =
      λ card there.
      let run = c.args.run.now in
      let s = session_of run.keeper.cabin.cards card in
      let d = devices (g.M.Medium.state c.args.unit.now) (g.C.Chip.state c.args.card_a.now) (g.D.Chip.state c.args.card_b.now) in
      let e = devices (g.M.Medium.state c.note_place.new.unit) (g.C.Chip.state c.args.card_a.now) (g.D.Chip.state c.args.card_b.now) in
      let failed : true ≡ is_err c.from_residual.result = search rules in
      subst (λ (b : Bool). PlaceOn s s b c.args.place.entry (card_of d card) (card_of e card)) failed (place-unit c.args.place.entry (card_of d card) (card_of e card) s s);
  events =
      let run = c.args.run.now in
      let U = g.M.Medium.state c.args.unit.now in
      let V = g.M.Medium.state c.note_place.new.unit in
      let A0 = g.C.Chip.state c.args.card_a.now in
      let B0 = g.D.Chip.state c.args.card_b.now in
      let there : card_in (seat_in run.keeper.cabin.slots.seats c.args.place.slot) ≡ Some c.in-Some.card = cc in
      let failed : true ≡ is_err c.from_residual.result = search rules in
      let ring = says-of U V (g.met.M.Medium.coherent c.args.unit.now) (IsAdding unit_place_ring (unit_place_bytes c.in-Some-number_in.number c.args.place.entry)) (adding-nothing (unit_place_bytes c.in-Some-number_in.number c.args.place.entry)) c.in_err-note_place.ensures.alters.moments in
      subst (λ (b : Bool). NotesPlace (card_in (seat_in run.keeper.cabin.slots.seats c.args.place.slot)) c.args.place.slot c.args.place.at b run run c.args.breaks.now c.args.breaks.now (devices U A0 B0) (devices V A0 B0)) failed
      (subst (λ (q : Option Card). NotesPlace q c.args.place.slot c.args.place.at true run run c.args.breaks.now c.args.breaks.now (devices U A0 B0) (devices V A0 B0)) (sym there) (inl (refl, refl, refl, quiet-any U V A0 B0 A0 B0 true ring)));
  rings =
      λ tells.
      let run = c.args.run.now in
      let U = g.M.Medium.state c.args.unit.now in
      let V = g.M.Medium.state c.note_place.new.unit in
      let number = c.in-Some-number_in.number in
      let told : number_of_seat run.keeper.cabin.cards (seat_in run.keeper.cabin.slots.seats c.args.place.slot) ≡ Some number = cc in
      let failed : true ≡ is_err c.from_residual.result = search rules in
      subst (λ (q : Bool). WritesPlace (number_of_seat run.keeper.cabin.cards (seat_in run.keeper.cabin.slots.seats c.args.place.slot)) c.args.place.entry q U V) failed
      (subst (λ (o : Option FullCardNumber). WritesPlace o c.args.place.entry true U V) (sym told)
      (place-broken (unit_place_bytes number c.args.place.entry) U V V (g.met.M.Medium.coherent c.args.unit.now) (g.met.M.Medium.coherent c.note_place.new.unit) tells c.note_place.ensures.alters.moments));
}

pub returns-in_err-note_place-clause-promises : goal.returns-in_err-note_place-clause-promises
returns-in_err-note_place-clause-promises g c = record {
  recorded =
      λ late ending country region speed before is o done s now front rest are n allowed w time.
      let run = c.args.run.now in
      let lit = c.requires.acting.going in
      let U = g.M.Medium.state c.args.unit.now in
      let V = g.M.Medium.state c.note_place.new.unit in
      let A0 = g.C.Chip.state c.args.card_a.now in
      let B0 = g.D.Chip.state c.args.card_b.now in
      let failed : true ≡ is_err c.from_residual.result = search rules in
      let w1 = place-first o done s c.args.place.slot ending country region c.args.place.at.begun speed run before c.args.breaks.now (devices U A0 B0) is now front rest are n allowed w in
      subst (λ (q : Bool). GoesOnOrFails q o done s (In c.args.place.at.begun) [] run (record before { breaks = c.args.breaks.now }) (devices V A0 B0) w.within.b) failed
      (unit-recorded o done s c.args.place.at.begun run (record before { breaks = c.args.breaks.now }) U V A0 B0 (g.met.M.Medium.coherent c.args.unit.now) c.note_place.ensures.journal lit.span lit.stands lit.next w1.goes true c.in_err-note_place.ensures.alters.cause
      (λ fine. place-more (unit_place_bytes c.in-Some-number_in.number c.args.place.entry) (g.M.Medium.state c.args.unit.now) (g.M.Medium.state c.note_place.new.unit) (g.met.M.Medium.coherent c.args.unit.now) c.note_place.ensures.alters.moments));
  evented =
      λ late ending country region speed before is o done s now front rest are n allowed w events time.
      let run = c.args.run.now in
      let lit = c.requires.acting.going in
      let U = g.M.Medium.state c.args.unit.now in
      let V = g.M.Medium.state c.note_place.new.unit in
      let A0 = g.C.Chip.state c.args.card_a.now in
      let B0 = g.D.Chip.state c.args.card_b.now in
      let begun : ℕ = c.args.place.at.begun in
      let out : Outcome = record before { breaks = c.args.breaks.now } in
      let failed : true ≡ is_err c.from_residual.result = search rules in
      let left = left-over front rest (Place c.args.place.slot ending country region) s begun n are in
      let ring = says-of U V (g.met.M.Medium.coherent c.args.unit.now) (IsAdding unit_place_ring (unit_place_bytes c.in-Some-number_in.number c.args.place.entry)) (adding-nothing (unit_place_bytes c.in-Some-number_in.number c.args.place.entry)) c.in_err-note_place.ensures.alters.moments in
      let w1 = place-first o done s c.args.place.slot ending country region begun speed run before c.args.breaks.now (devices U A0 B0) is now front rest are n allowed w in
      let first : EventedNow o done s w1.goes.within.b.run Acting (log_of out) (devices U A0 B0) = subst (λ (b : Beginning). EventedNow o done s b.run Acting (log_of out) (devices U A0 B0)) (sym w1.began)
      (subst (λ (l : Listed Break). EventedNow o done s w.within.b.run Acting (log_of (record before { breaks = l })) (devices U A0 B0)) is events) in
      subst (λ (q : Bool). EventsGoOn q o done s w.within.b.run (In begun) Acting (log_of out) (devices V A0 B0)) failed
      (subst (λ (b : Beginning). EventsGoOn true o done s b.run (In begun) Acting (log_of out) (devices V A0 B0)) w1.began
      (unit-evented o done s begun run out U V A0 B0 (g.met.M.Medium.coherent c.args.unit.now) c.note_place.ensures.journal lit.span lit.stands lit.next w1.goes rest left true c.in_err-note_place.ensures.alters.cause (quiet-any U V A0 B0 A0 B0 true ring) first));
  ringed =
      let run = c.args.run.now in
      let lit = c.requires.acting.going in
      let number = c.in-Some-number_in.number in
      let card : Card = c.in-Some.card in
      let breaks : Listed Break = c.args.breaks.now in
      let U = g.M.Medium.state c.args.unit.now in
      let V = g.M.Medium.state c.note_place.new.unit in
      let A0 = g.C.Chip.state c.args.card_a.now in
      let B0 = g.D.Chip.state c.args.card_b.now in
      let there : card_in (seat_in run.keeper.cabin.slots.seats c.args.place.slot) ≡ Some card = cc in
      let told : number_of_seat run.keeper.cabin.cards (seat_in run.keeper.cabin.slots.seats c.args.place.slot) ≡ Some number = cc in
      let failed : true ≡ is_err c.from_residual.result = search rules in
      let none : breaks ≡ with_lines [] breaks = ap (λ (bs : List Break). record breaks { items = bs }) (sym (append-nil breaks.items)) in
      place-goes c.args.place.slot c.args.place.entry c.args.place.at (is_err c.from_residual.result) run run breaks breaks (devices U A0 B0) (devices V A0 B0) card number false there told
      (numbered-session run.keeper.cabin.cards (seat_in run.keeper.cabin.slots.seats c.args.place.slot) card number there told) (ungiven_of lit.span) lit.cabin c.requires.at c.requires.acting.small (record { run = refl; told = none })
      (λ tells. subst (λ (o : Option FullCardNumber). WritesPlace o c.args.place.entry (is_err c.from_residual.result) U V) told ((returns-in_err-note_place-clause-leaves g c).rings tells))
      (record { unit = c.note_place.ensures.journal.keeps; card_a = λ t x le at. at; card_b = λ t x le at. at })
      (λ a at_. (
        both-cards (λ k. PlaceCall false (is_err c.from_residual.result) a.session.application c.args.place.entry (card_of (devices U A0 B0) k) (card_of (devices V A0 B0) k))
            (subst (λ (q : Bool). PlaceCall false q a.session.application c.args.place.entry A0 A0) failed (call-unbegun a.session.application c.args.place.entry A0))
            (subst (λ (q : Bool). PlaceCall false q a.session.application c.args.place.entry B0 B0) failed (call-unbegun a.session.application c.args.place.entry B0)) card,
        both-cards (λ k. MayHavePlace a.session.application c.args.place.entry (card_of (devices U A0 B0) k) (card_of (devices V A0 B0) k)) (may-unbegun a.session.application c.args.place.entry A0) (may-unbegun a.session.application c.args.place.entry B0) card,
      ))
      (λ k apart. both-cards (λ k. (y : List ℕ) → (card_of (devices V A0 B0) k).may_leave y → (card_of (devices U A0 B0) k).may_leave y) (λ y left. left) (λ y left. left) k);
  cards =
      let run = c.args.run.now in
      let breaks : Listed Break = c.args.breaks.now in
      let U = g.M.Medium.state c.args.unit.now in
      let V = g.M.Medium.state c.note_place.new.unit in
      let A0 = g.C.Chip.state c.args.card_a.now in
      let B0 = g.D.Chip.state c.args.card_b.now in
      let none : breaks ≡ with_lines [] breaks = ap (λ (bs : List Break). record breaks { items = bs }) (sym (append-nil breaks.items)) in
      place-cards c.args.place.slot c.args.place.at (is_err c.from_residual.result) false run run breaks breaks (devices U A0 B0) (devices V A0 B0) c.requires.at none ((returns-in_err-note_place-clause-leaves g c).card_events)
      (record { unit = c.note_place.ensures.journal.keeps; card_a = λ t x le at. at; card_b = λ t x le at. at })
      (later-of-unit U V A0 B0 (state-by U V _ c.note_place.ensures.journal.later c.note_place.ensures.alters.cause)
      (place-leaves (unit_place_bytes c.in-Some-number_in.number c.args.place.entry) U V (g.met.M.Medium.coherent c.args.unit.now) c.note_place.ensures.alters.moments));
  stands =
      let run = c.args.run.now in
      let U = g.M.Medium.state c.args.unit.now in
      let V = g.M.Medium.state c.note_place.new.unit in
      let A0 = g.C.Chip.state c.args.card_a.now in
      let B0 = g.D.Chip.state c.args.card_b.now in
      cards-stand c.args.place.slot c.args.place.at run c.args.breaks.now U V A0 B0 c.note_place.ensures.journal.keeps;
}

pub returns-in_err-note_place-clause-behind : goal.returns-in_err-note_place-clause-behind
returns-in_err-note_place-clause-behind g c = record {
  held =
      record {
        held = record { is_unit = unit-stays c.note_place.ensures.journal c.requires.acting.held.is_unit; odometer = c.requires.acting.held.odometer; minute = c.requires.acting.held.minute; card_a = c.requires.acting.held.card_a; card_b = c.requires.acting.held.card_b; stand = c.requires.acting.held.stand };
        cause =
            let failed : true ≡ is_err c.from_residual.result = search rules in
            subst (λ (f : Bool). HasCause (g.M.Medium.state c.args.unit.now) (g.M.Medium.state c.note_place.new.unit) f) failed c.in_err-note_place.ensures.alters.cause;
      };
  going = first_of (search rules, grind (arith, common_steps));
}

pub returns-in_err-note_place-clause-goes : goal.returns-in_err-note_place-clause-goes
returns-in_err-note_place-clause-goes g c = record {
  later =
      later-of-unit (g.M.Medium.state c.args.unit.now) (g.M.Medium.state c.note_place.new.unit) (g.C.Chip.state c.args.card_a.now) (g.D.Chip.state c.args.card_b.now) (state-by (g.M.Medium.state c.args.unit.now) (g.M.Medium.state c.note_place.new.unit) _ c.note_place.ensures.journal.later c.note_place.ensures.alters.cause)
      (place-leaves (unit_place_bytes c.in-Some-number_in.number c.args.place.entry) (g.M.Medium.state c.args.unit.now) (g.M.Medium.state c.note_place.new.unit) (g.met.M.Medium.coherent c.args.unit.now) c.note_place.ensures.alters.moments);
  calm = calm-of-unit (g.M.Medium.state c.args.unit.now) (g.M.Medium.state c.note_place.new.unit) (g.C.Chip.state c.args.card_a.now) (g.D.Chip.state c.args.card_b.now);
  more = omega arith;
  most = record { unit = (let one = c.in_err-note_place.ensures.alters.most in omega (arith, one)); card_a = omega arith; card_b = omega arith };
}

-- ---- card a, and card b

pub returns-in-A-clause-behind : goal.returns-in-A-clause-behind
returns-in-A-clause-behind g c = record {
  held =
      record {
        held =
            let e = c.note_place_in.ensures in
            held-noted A c.args.place.slot c.args.place.at c.args.run.now c.note_place_in.new.run c.args.breaks.now c.note_place_in.new.breaks c.note_place_in.ensures.noted.0 c.note_place_in.ensures.noted.1 (g.M.Medium.state c.args.unit.now) (g.M.Medium.state c.note_place_in.new.unit) (g.C.Chip.state c.args.card_a.now) (g.C.Chip.state c.note_place_in.new.card) (g.D.Chip.state c.args.card_b.now) (g.C.Chip.card c.args.card_a.now) (g.C.Chip.card c.note_place_in.new.card) (g.D.Chip.card c.args.card_b.now) c.requires.at c.requires.acting.held e.behind.unit e.behind.card e.behind.size e.stands;
        cause = cause_after c.in_ok-note_place.ensures.alters.cause c.note_place_in.ensures.behind.cause;
      };
  going =
      let e = c.note_place_in.ensures in
      on_ok c.note_place_in.result (λ well. going-noted A c.args.place.slot c.args.place.at c.args.run.now c.note_place_in.new.run c.args.breaks.now c.note_place_in.new.breaks c.note_place_in.ensures.noted.0 c.note_place_in.ensures.noted.1 (g.M.Medium.state c.args.unit.now) (g.M.Medium.state c.note_place_in.new.unit) (g.C.Chip.state c.args.card_a.now) (g.C.Chip.state c.note_place_in.new.card) (g.D.Chip.state c.args.card_b.now) (g.C.Chip.card c.args.card_a.now) (g.C.Chip.card c.note_place_in.new.card) (g.D.Chip.card c.args.card_b.now) c.requires.acting.going (ok_gives c.note_place_in.result e.behind.ready well) e.behind.card (rows-then g (noted-first-a g c) (side-a g c) c.note_place_in.ensures well) e.stands
      (knows-left c.args.run.now.watch.newest (g.M.Medium.state c.args.unit.now) (g.M.Medium.state c.note_place_in.new.unit) (g.met.M.Medium.coherent c.args.unit.now) (g.met.M.Medium.coherent c.note_place_in.new.unit) c.requires.acting.going.ready.unit_ready.works (later g (noted-first-a g c) (side-a g c) c.note_place_in.ensures).speeds));
}

pub returns-in-A-clause-placed : goal.returns-in-A-clause-placed
returns-in-A-clause-placed g c = record {
  card = placed g (noted-first-a g c) (side-a g c) c.note_place_in.ensures;
  run = only-noted A c.args.place.slot c.args.place.at c.args.run.now c.note_place_in.new.run c.args.breaks.now c.note_place_in.new.breaks c.note_place_in.ensures.noted.0 c.note_place_in.ensures.noted.1;
  room = room-noted A c.args.place.slot c.args.place.at c.args.run.now c.note_place_in.new.run c.args.breaks.now c.note_place_in.new.breaks c.note_place_in.ensures.noted.0 c.note_place_in.ensures.noted.1 (some g (noted-first-a g c) (side-a g c) c.note_place_in.ensures);
}

pub returns-in-A-clause-leaves : goal.returns-in-A-clause-leaves
returns-in-A-clause-leaves g c = record {
  card_events = card-events g (noted-first-a g c) (side-a g c) c.note_place_in.ensures;
  on_card = on-card g (noted-first-a g c) (side-a g c) c.note_place_in.ensures;
  events = events g (noted-first-a g c) (side-a g c) c.note_place_in.ensures;
  rings = writes g (noted-first-a g c) (side-a g c) c.note_place_in.ensures;
}

pub returns-in-A-clause-promises : goal.returns-in-A-clause-promises
returns-in-A-clause-promises g c = record {
  recorded = λ late ending country region speed before is o done s now front rest are n allowed w time. recorded g (noted-first-a g c) (side-a g c) c.note_place_in.ensures late ending country region speed before is o done s now front rest are n allowed w;
  evented = λ late ending country region speed before is o done s now front rest are n allowed w events time. evented g (noted-first-a g c) (side-a g c) c.note_place_in.ensures late ending country region speed before is o done s now front rest are n allowed w events;
  ringed = ringed g (noted-first-a g c) (side-a g c) c.note_place_in.ensures;
  cards = shown g (noted-first-a g c) (side-a g c) c.note_place_in.ensures;
  stands = stands_ g (noted-first-a g c) (side-a g c) c.note_place_in.ensures;
}

pub returns-in-A-clause-goes : goal.returns-in-A-clause-goes
returns-in-A-clause-goes g c = record {
  later = later g (noted-first-a g c) (side-a g c) c.note_place_in.ensures;
  calm = calm g (noted-first-a g c) (side-a g c) c.note_place_in.ensures;
  more = more-noted A c.args.place.slot c.args.place.at c.args.run.now c.note_place_in.new.run c.args.breaks.now c.note_place_in.new.breaks c.note_place_in.ensures.noted.0 c.note_place_in.ensures.noted.1;
  most =
      let one = c.in_ok-note_place.ensures.alters.most in
      let next = c.note_place_in.ensures.most in
      record {
        unit = (let a = next.0 in omega (arith, one, a));
        card_a = next.1;
        card_b = omega arith;
      };
}

pub returns-in-B-clause-behind : goal.returns-in-B-clause-behind
returns-in-B-clause-behind g c = record {
  held =
      record {
        held =
            let e = c.note_place_in-in-B.ensures in
            held-noted B c.args.place.slot c.args.place.at c.args.run.now c.note_place_in-in-B.new.run c.args.breaks.now c.note_place_in-in-B.new.breaks c.note_place_in-in-B.ensures.noted.0 c.note_place_in-in-B.ensures.noted.1 (g.M.Medium.state c.args.unit.now) (g.M.Medium.state c.note_place_in-in-B.new.unit) (g.D.Chip.state c.args.card_b.now) (g.D.Chip.state c.note_place_in-in-B.new.card) (g.C.Chip.state c.args.card_a.now) (g.D.Chip.card c.args.card_b.now) (g.D.Chip.card c.note_place_in-in-B.new.card) (g.C.Chip.card c.args.card_a.now) c.requires.at c.requires.acting.held e.behind.unit e.behind.card e.behind.size e.stands;
        cause = cause_after c.in_ok-note_place.ensures.alters.cause c.note_place_in-in-B.ensures.behind.cause;
      };
  going =
      let e = c.note_place_in-in-B.ensures in
      on_ok c.note_place_in-in-B.result (λ well. going-noted B c.args.place.slot c.args.place.at c.args.run.now c.note_place_in-in-B.new.run c.args.breaks.now c.note_place_in-in-B.new.breaks c.note_place_in-in-B.ensures.noted.0 c.note_place_in-in-B.ensures.noted.1 (g.M.Medium.state c.args.unit.now) (g.M.Medium.state c.note_place_in-in-B.new.unit) (g.D.Chip.state c.args.card_b.now) (g.D.Chip.state c.note_place_in-in-B.new.card) (g.C.Chip.state c.args.card_a.now) (g.D.Chip.card c.args.card_b.now) (g.D.Chip.card c.note_place_in-in-B.new.card) (g.C.Chip.card c.args.card_a.now) c.requires.acting.going (ok_gives c.note_place_in-in-B.result e.behind.ready well) e.behind.card (rows-then g (noted-first-b g c) (side-b g c) c.note_place_in-in-B.ensures well) e.stands
      (knows-left c.args.run.now.watch.newest (g.M.Medium.state c.args.unit.now) (g.M.Medium.state c.note_place_in-in-B.new.unit) (g.met.M.Medium.coherent c.args.unit.now) (g.met.M.Medium.coherent c.note_place_in-in-B.new.unit) c.requires.acting.going.ready.unit_ready.works (later g (noted-first-b g c) (side-b g c) c.note_place_in-in-B.ensures).speeds));
}

pub returns-in-B-clause-placed : goal.returns-in-B-clause-placed
returns-in-B-clause-placed g c = record {
  card = placed g (noted-first-b g c) (side-b g c) c.note_place_in-in-B.ensures;
  run = only-noted B c.args.place.slot c.args.place.at c.args.run.now c.note_place_in-in-B.new.run c.args.breaks.now c.note_place_in-in-B.new.breaks c.note_place_in-in-B.ensures.noted.0 c.note_place_in-in-B.ensures.noted.1;
  room = room-noted B c.args.place.slot c.args.place.at c.args.run.now c.note_place_in-in-B.new.run c.args.breaks.now c.note_place_in-in-B.new.breaks c.note_place_in-in-B.ensures.noted.0 c.note_place_in-in-B.ensures.noted.1 (some g (noted-first-b g c) (side-b g c) c.note_place_in-in-B.ensures);
}

pub returns-in-B-clause-leaves : goal.returns-in-B-clause-leaves
returns-in-B-clause-leaves g c = record {
  card_events = card-events g (noted-first-b g c) (side-b g c) c.note_place_in-in-B.ensures;
  on_card = on-card g (noted-first-b g c) (side-b g c) c.note_place_in-in-B.ensures;
  events = events g (noted-first-b g c) (side-b g c) c.note_place_in-in-B.ensures;
  rings = writes g (noted-first-b g c) (side-b g c) c.note_place_in-in-B.ensures;
}

pub returns-in-B-clause-promises : goal.returns-in-B-clause-promises
returns-in-B-clause-promises g c = record {
  recorded = λ late ending country region speed before is o done s now front rest are n allowed w time. recorded g (noted-first-b g c) (side-b g c) c.note_place_in-in-B.ensures late ending country region speed before is o done s now front rest are n allowed w;
  evented = λ late ending country region speed before is o done s now front rest are n allowed w events time. evented g (noted-first-b g c) (side-b g c) c.note_place_in-in-B.ensures late ending country region speed before is o done s now front rest are n allowed w events;
  ringed = ringed g (noted-first-b g c) (side-b g c) c.note_place_in-in-B.ensures;
  cards = shown g (noted-first-b g c) (side-b g c) c.note_place_in-in-B.ensures;
  stands = stands_ g (noted-first-b g c) (side-b g c) c.note_place_in-in-B.ensures;
}

pub returns-in-B-clause-goes : goal.returns-in-B-clause-goes
returns-in-B-clause-goes g c = record {
  later = later g (noted-first-b g c) (side-b g c) c.note_place_in-in-B.ensures;
  calm = calm g (noted-first-b g c) (side-b g c) c.note_place_in-in-B.ensures;
  more = more-noted B c.args.place.slot c.args.place.at c.args.run.now c.note_place_in-in-B.new.run c.args.breaks.now c.note_place_in-in-B.new.breaks c.note_place_in-in-B.ensures.noted.0 c.note_place_in-in-B.ensures.noted.1;
  most =
      let one = c.in_ok-note_place.ensures.alters.most in
      let next = c.note_place_in-in-B.ensures.most in
      record {
        unit = (let a = next.0 in omega (arith, one, a));
        card_b = next.1;
        card_a = omega arith;
      };
}
