use Rattle.std.proofs.lemmas.Grind.{common_steps}
use Rattle.std.proofs.Common.{arith, ◌≡◌, ◌∙◌, true, false, Option, Some, None, [], ◌∷◌, refl, ap, sym, subst, is_some, rules}
use Rattle.activity_codec.specs.declared.values.Slot.{Slot}
use Rattle.trace_model.specs.declared.Card.{Card}
use Rattle.trace_model.specs.declared.Card.TheVariants.{A, B}
use Rattle.tach_media.proofs.Runs.{on_ok, ok_gives, no_reads}
use Rattle.run_crew.specs.card_slots.Calls.{seat_in, card_in}
use Rattle.run_crew.specs.declared.cards.Known.{Known}
use Rattle.run_crew.specs.Cards.{session_of, known_of}
use Rattle.run_crew.specs.Cabin.{number_of_seat}
use Rattle.log_model.specs.declared.lines.Break.{Break}
use Rattle.run_outcome.specs.Lines.{Listed}
use Rattle.run_acts.specs.declared.run.Run.{Run}
use Rattle.run_minutes.specs.declared.keeper.Moment.{Moment}
use Rattle.run_minutes.proofs.Fates.{no-lines}
use Rattle.run_acts.specs.Acting.{now_moment, IsNotedIn}
use Rattle.run_acts.proofs.Cabins.{numbered-session}
use Rattle.std.specs.Prelude.{is_err}
use Rattle.run_acts.proofs.Comings.{leaves-more}
use Rattle.run_acts.proofs.NoteRecorded.{noted-some, some-leaves}
use Rattle.run_minutes.specs.run_promise.Between.{devices}
use Rattle.run_acts.specs.Noting.{fall_events, IsNoteRecorded, NotesFall}
use Rattle.run_acts.proofs.NotedEvents.{same-noted, noted-any}
use Rattle.run_events.proofs.run_rings.Same.{rings-left}
use Rattle.run_events.proofs.Newest.{knows-left}
use Rattle.run_minutes.proofs.Later.{state-by, later-same}
use Rattle.card_files.specs.declared.card_event.CardEvent.{CardEvent}
use Rattle.device_calls.specs.safety_model.Safe.{card_of, Devices}
use Rattle.run_events.specs.Entries.{card_entry}
use Rattle.run_acts.specs.CardNotes.{NotesOn, LeavesPlaces, on_seat, LeavePlaces, NotesOnCards}
use Rattle.run_acts.proofs.CardNotes.{both-cards, seat-is, seat-other, seat-none, on-seat, on-as, on-other, bare-seat}
use Rattle.run_acts.proofs.CardPlaces.{places-self}
use Rattle.run_minutes.proofs.Calm.{calm-same}
use Rattle.run_acts.proofs.OneCard.{OneCard, unit-is, later-by, calm-by, known-noted, only-noted, more-noted, room-noted, calm-noted, held-noted, going-noted, none-there, on_a, on_b}
use Rattle.run_minutes.specs.Later.{AreCalm, AreLater}
use Rattle.run_crew.specs.declared.cards.Cards.{Cards}
use Rattle.tach_media.specs.Medium.{State}
use Rattle.log_model.specs.Log.{In}
use Rattle.run_acts.specs.ActsEvented.{NoteLeaves}
use Rattle.run_acts.specs.NotedEvents.{NotesEvents}
use Rattle.run_crew.specs.card_slots.declared.seats.Seat.{Seat}
use Rattle.run_minutes.specs.run_devices.Told.{arranged}
use Rattle.device_calls.specs.device_rule.Views.{other}
use Rattle.run_acts.specs.Acts.{NotesGapOn}
use Rattle.run_acts.proofs.gap.note_in.Given.{Over}
use Rattle.run_acts.proofs.gap.note_in.Goals.{In-Some-number_in, After-note_on, After-note_on-in-B}
use Rattle.run_minutes.proofs.Writes.{wrote-none}
use Rattle.run_acts.proofs.gap.note_in.Goals as goal

-- ---- the note on a card

-- one event is noted on it, and none on the other
event-by : (card : Card) (seat : Option Seat) (event : CardEvent) (old new : Cards) (U V X Y Z : State) → card_in seat ≡ Some card → NotesOn false (session_of old card) (session_of new card) (event ∷ []) X Y → known_of new (other card) ≡ known_of old (other card)
    → NotesOnCards false old new (on_seat seat event) (arranged card U X Z) (arranged card V Y Z)
event-by A seat event old new U V X Y Z there mine known =
    both-cards (λ k. NotesOn false (session_of old k) (session_of new k) (on_seat seat event k) (card_of (devices U X Z) k) (card_of (devices V Y Z) k))
    (on-as false (session_of old A) (session_of new A) (event ∷ []) (on_seat seat event A) X Y (sym (on-seat seat event A (seat-is seat A there))) mine)
    (on-other false seat event B (session_of old B) (session_of new B) Z (seat-other seat A B there refl) (ap (λ (k : Known). k.accepted) known))
event-by B seat event old new U V X Y Z there mine known =
    both-cards (λ k. NotesOn false (session_of old k) (session_of new k) (on_seat seat event k) (card_of (devices U Z X) k) (card_of (devices V Z Y) k))
    (on-other false seat event A (session_of old A) (session_of new A) Z (seat-other seat B A there refl) (ap (λ (k : Known). k.accepted) known))
    (on-as false (session_of old B) (session_of new B) (event ∷ []) (on_seat seat event B) X Y (sym (on-seat seat event B (seat-is seat B there))) mine)

-- and no place on either
places-by : (card : Card) (cards : Cards) (U V X Y Z : State) → LeavesPlaces (session_of cards card) X Y → LeavePlaces cards (arranged card U X Z) (arranged card V Y Z)
places-by A cards U V X Y Z mine = both-cards (λ k. LeavesPlaces (session_of cards k) (card_of (devices U X Z) k) (card_of (devices V Y Z) k)) mine (places-self (session_of cards B) Z)
places-by B cards U V X Y Z mine = both-cards (λ k. LeavesPlaces (session_of cards k) (card_of (devices U Z X) k) (card_of (devices V Z Y) k)) (places-self (session_of cards A) Z) mine

module _ (g : Over) (c : In-Some-number_in g) (k : OneCard c.in-Some.card (g.C.Chip.state c.args.card_a.now) (g.D.Chip.state c.args.card_b.now)) (e : NotesGapOn k.which c.args.gap.slot c.args.gap.event k.result c.args.run.now k.new c.args.breaks.now k.breaks (g.M.Medium.state c.args.unit.now) k.unit (k.state k.before) (k.state k.after) (k.chip k.after)) where
  abbrev first : Devices
  first = devices (g.M.Medium.state c.args.unit.now) (g.C.Chip.state c.args.card_a.now) (g.D.Chip.state c.args.card_b.now)

  abbrev last : Devices
  last = arranged k.which k.unit (k.state k.after) k.beside

  seat : card_in (seat_in c.args.run.now.keeper.cabin.slots.seats c.args.gap.slot) ≡ Some k.which
  seat = let is : c.in-Some.card ≡ k.which = k.is in cc

  some : is_some (session_of c.args.run.now.keeper.cabin.cards k.which) ≡ true
  some =
      let told : number_of_seat c.args.run.now.keeper.cabin.cards (seat_in c.args.run.now.keeper.cabin.slots.seats c.args.gap.slot) ≡ Some c.in-Some-number_in.field-0 = cc in
      numbered-session c.args.run.now.keeper.cabin.cards (seat_in c.args.run.now.keeper.cabin.slots.seats c.args.gap.slot) k.which c.in-Some-number_in.field-0 seat told

  recorded : IsNoteRecorded (In 0) (is_err k.result) c.args.run.now k.new c.args.breaks.now k.breaks first last
  recorded =
      let lit = c.requires.power.going in
      subst (λ (m : Devices). IsNoteRecorded (In 0) (is_err k.result) c.args.run.now k.new c.args.breaks.now k.breaks m last) (sym (k.beside_it (g.M.Medium.state c.args.unit.now)))
      (noted-some k.which c.args.gap.slot (now_moment c.args.run.now) c.args.run.now c.args.breaks.now (g.M.Medium.state c.args.unit.now) k.unit (k.state k.before) (k.state k.after) k.beside
      (g.met.M.Medium.coherent c.args.unit.now) k.whole k.whole_after k.size some e.known.value seat refl refl lit.span lit.stands lit.next lit.cabin e.known.moments e.writes.journal
      (is_err k.result) e.behind.cause (λ fine. leaves-more (g.M.Medium.state c.args.unit.now) k.unit e.shows.rings) k.new k.breaks e.noted.0 e.noted.1 e.noted.2 e.noted.3)

  leaves : NoteLeaves (is_err k.result) c.args.run.now c.args.breaks.now k.breaks first last
  leaves =
      let lit = c.requires.power.going in
      subst (λ (m : Devices). NoteLeaves (is_err k.result) c.args.run.now c.args.breaks.now k.breaks m last) (sym (k.beside_it (g.M.Medium.state c.args.unit.now)))
      (λ o done s out w power. some-leaves k.which c.args.gap.slot (now_moment c.args.run.now) c.args.run.now c.args.breaks.now (g.M.Medium.state c.args.unit.now) k.unit (k.state k.before) (k.state k.after) k.beside
      (g.met.M.Medium.coherent c.args.unit.now) k.whole k.whole_after k.size some e.known.value seat refl refl lit.span lit.stands lit.next lit.cabin e.known.moments e.writes.journal
      (is_err k.result) e.behind.cause o done s out w (λ begins. power) s.actions ([], refl, refl) e.noted.0 k.new k.breaks e.noted.1 e.noted.2 e.noted.3)

  noted-then : IsNotedIn (card_in (seat_in c.args.run.now.keeper.cabin.slots.seats c.args.gap.slot)) c.args.gap.slot (now_moment c.args.run.now) c.args.run.now k.new c.args.breaks.now k.breaks e.shows.events.fell
  noted-then = subst (λ (o : Option Card). IsNotedIn o c.args.gap.slot (now_moment c.args.run.now) c.args.run.now k.new c.args.breaks.now k.breaks e.shows.events.fell) (sym seat) (e.shows.events.noted, λ fell. some)

  notes : NotesFall (λ fell. IsNotedIn (card_in (seat_in c.args.run.now.keeper.cabin.slots.seats c.args.gap.slot)) c.args.gap.slot (now_moment c.args.run.now) c.args.run.now k.new c.args.breaks.now k.breaks fell) c.args.run.now.next (is_err k.result) k.new first last
  notes = record {
    fell = e.shows.events.fell;
    noted = noted-then;
    failing = e.shows.events.failing;
    notes = subst (λ (m : Devices). NotesEvents (fall_events e.shows.events.fell c.args.run.now.next k.new) (is_err k.result) m last) (sym (k.beside_it (g.M.Medium.state c.args.unit.now)))
        (noted-any (fall_events e.shows.events.fell c.args.run.now.next k.new) (is_err k.result) (devices (g.M.Medium.state c.args.unit.now) (k.state k.before) (k.state k.before)) (devices k.unit (k.state k.after) (k.state k.after)) (arranged k.which (g.M.Medium.state c.args.unit.now) (k.state k.before) k.beside) last (unit-is k.which (g.M.Medium.state c.args.unit.now) (k.state k.before) k.beside) (unit-is k.which k.unit (k.state k.after) k.beside) e.shows.events.notes);
  }

  later : AreLater first last
  later =
      subst (λ (m : Devices). AreLater m last) (sym (k.beside_it (g.M.Medium.state c.args.unit.now)))
      (later-by k.which (g.M.Medium.state c.args.unit.now) k.unit (k.state k.before) (k.state k.after) k.beside (state-by (g.M.Medium.state c.args.unit.now) k.unit _ e.writes.journal.later e.behind.cause) (state-by (k.state k.before) (k.state k.after) e.noted.0 e.clock_card e.noted.3) e.writes.speeds)

  calm : AreCalm c.args.breaks.now.items k.breaks.items first last
  calm =
      subst (λ (m : Devices). AreCalm c.args.breaks.now.items k.breaks.items m last) (sym (k.beside_it (g.M.Medium.state c.args.unit.now)))
      (calm-by k.which (g.M.Medium.state c.args.unit.now) k.unit (k.state k.before) (k.state k.after) k.beside (calm-noted k.which c.args.gap.slot (now_moment c.args.run.now) c.args.run.now k.new c.args.breaks.now k.breaks e.noted.0 e.noted.1 (k.state k.before) (k.state k.after) e.noted.3))

  card-events : NotesOnCards false c.args.run.now.keeper.cabin.cards k.new.keeper.cabin.cards (on_seat (seat_in c.args.run.now.keeper.cabin.slots.seats c.args.gap.slot) (card_entry c.args.gap.event c.args.run.now.keeper.memory.registration)) first last
  card-events =
      subst (λ (m : Devices). NotesOnCards false c.args.run.now.keeper.cabin.cards k.new.keeper.cabin.cards (on_seat (seat_in c.args.run.now.keeper.cabin.slots.seats c.args.gap.slot) (card_entry c.args.gap.event c.args.run.now.keeper.memory.registration)) m last) (sym (k.beside_it (g.M.Medium.state c.args.unit.now)))
      (event-by k.which (seat_in c.args.run.now.keeper.cabin.slots.seats c.args.gap.slot) (card_entry c.args.gap.event c.args.run.now.keeper.memory.registration) c.args.run.now.keeper.cabin.cards k.new.keeper.cabin.cards (g.M.Medium.state c.args.unit.now) k.unit (k.state k.before) (k.state k.after) k.beside seat e.shows.card_events (known-noted k.which c.args.gap.slot (now_moment c.args.run.now) c.args.run.now k.new c.args.breaks.now k.breaks e.noted.0 e.noted.1))

  places : LeavePlaces c.args.run.now.keeper.cabin.cards first last
  places = subst (λ (m : Devices). LeavePlaces c.args.run.now.keeper.cabin.cards m last) (sym (k.beside_it (g.M.Medium.state c.args.unit.now))) (places-by k.which c.args.run.now.keeper.cabin.cards (g.M.Medium.state c.args.unit.now) k.unit (k.state k.before) (k.state k.after) k.beside e.shows.places)

module _ (g : Over) (c : After-note_on g) where
  abbrev there-a : In-Some-number_in g
  there-a = (goal.at.returns-in-A-clause-behind g c).In-Some-number_in

  abbrev side-a : OneCard there-a.in-Some.card (g.C.Chip.state c.args.card_a.now) (g.D.Chip.state c.args.card_b.now)
  side-a =
      on_a g.C.Chip.state g.C.Chip.card g.met.C.Chip.coherent c.args.card_a.now c.note_on.new.card c.requires.power.held.card_a.size (g.D.Chip.state c.args.card_b.now) (g.M.Medium.state c.note_on.new.unit) (g.met.M.Medium.coherent c.note_on.new.unit) c.note_on.new.run c.note_on.new.breaks c.note_on.result
      there-a.in-Some.card c.in-A.is

module _ (g : Over) (c : After-note_on-in-B g) where
  abbrev there-b : In-Some-number_in g
  there-b = (goal.at.returns-in-B-clause-behind g c).In-Some-number_in

  abbrev side-b : OneCard there-b.in-Some.card (g.C.Chip.state c.args.card_a.now) (g.D.Chip.state c.args.card_b.now)
  side-b =
      on_b g.D.Chip.state g.D.Chip.card g.met.D.Chip.coherent c.args.card_b.now c.note_on-in-B.new.card c.requires.power.held.card_b.size (g.C.Chip.state c.args.card_a.now) (g.M.Medium.state c.note_on-in-B.new.unit) (g.met.M.Medium.coherent c.note_on-in-B.new.unit) c.note_on-in-B.new.run c.note_on-in-B.new.breaks c.note_on-in-B.result
      there-b.in-Some.card c.in-B.is

-- ---- card a, and card b

pub returns-in-A-clause-behind : goal.returns-in-A-clause-behind
returns-in-A-clause-behind g c = record {
  held =
      record {
        held =
            let e = c.note_on.ensures in
            held-noted A c.args.gap.slot (now_moment c.args.run.now) c.args.run.now c.note_on.new.run c.args.breaks.now c.note_on.new.breaks c.note_on.ensures.noted.0 c.note_on.ensures.noted.1 (g.M.Medium.state c.args.unit.now) (g.M.Medium.state c.note_on.new.unit) (g.C.Chip.state c.args.card_a.now) (g.C.Chip.state c.note_on.new.card) (g.D.Chip.state c.args.card_b.now) (g.C.Chip.card c.args.card_a.now) (g.C.Chip.card c.note_on.new.card) (g.D.Chip.card c.args.card_b.now) refl c.requires.power.held e.behind.unit e.behind.card e.behind.size e.stands;
        cause = c.note_on.ensures.behind.cause;
      };
  going =
      let e = c.note_on.ensures in
      on_ok c.note_on.result (λ well. going-noted A c.args.gap.slot (now_moment c.args.run.now) c.args.run.now c.note_on.new.run c.args.breaks.now c.note_on.new.breaks c.note_on.ensures.noted.0 c.note_on.ensures.noted.1 (g.M.Medium.state c.args.unit.now) (g.M.Medium.state c.note_on.new.unit) (g.C.Chip.state c.args.card_a.now) (g.C.Chip.state c.note_on.new.card) (g.D.Chip.state c.args.card_b.now) (g.C.Chip.card c.args.card_a.now) (g.C.Chip.card c.note_on.new.card) (g.D.Chip.card c.args.card_b.now) c.requires.power.going (ok_gives c.note_on.result e.behind.ready well) e.behind.card (λ card h. ok_gives c.note_on.result (e.behind.rows card h) well) e.stands
      (knows-left c.args.run.now.watch.newest (g.M.Medium.state c.args.unit.now) (g.M.Medium.state c.note_on.new.unit) (g.met.M.Medium.coherent c.args.unit.now) (g.met.M.Medium.coherent c.note_on.new.unit) c.requires.power.going.ready.unit_ready.works e.writes.speeds));
}

pub returns-in-A-clause-recorded : goal.returns-in-A-clause-recorded
returns-in-A-clause-recorded g c = recorded g (there-a g c) (side-a g c) c.note_on.ensures

pub returns-in-A-clause-noted : goal.returns-in-A-clause-noted
returns-in-A-clause-noted g c = record {
  fell = (c.note_on.ensures.shows.events.fell, noted-then g (there-a g c) (side-a g c) c.note_on.ensures, c.note_on.ensures.shows.events.failing);
  run = only-noted A c.args.gap.slot (now_moment c.args.run.now) c.args.run.now c.note_on.new.run c.args.breaks.now c.note_on.new.breaks c.note_on.ensures.noted.0 c.note_on.ensures.noted.1;
  room = room-noted A c.args.gap.slot (now_moment c.args.run.now) c.args.run.now c.note_on.new.run c.args.breaks.now c.note_on.new.breaks c.note_on.ensures.noted.0 c.note_on.ensures.noted.1 (some g (there-a g c) (side-a g c) c.note_on.ensures);
}

pub returns-in-A-clause-leaves : goal.returns-in-A-clause-leaves
returns-in-A-clause-leaves g c = record {
  card_events = card-events g (there-a g c) (side-a g c) c.note_on.ensures;
  places = places g (there-a g c) (side-a g c) c.note_on.ensures;
  events = notes g (there-a g c) (side-a g c) c.note_on.ensures;
  rings = c.note_on.ensures.shows.rings;
  beside = leaves g (there-a g c) (side-a g c) c.note_on.ensures;
}

pub returns-in-A-clause-goes : goal.returns-in-A-clause-goes
returns-in-A-clause-goes g c = record {
  later = later g (there-a g c) (side-a g c) c.note_on.ensures;
  calm = calm g (there-a g c) (side-a g c) c.note_on.ensures;
  more = more-noted A c.args.gap.slot (now_moment c.args.run.now) c.args.run.now c.note_on.new.run c.args.breaks.now c.note_on.new.breaks c.note_on.ensures.noted.0 c.note_on.ensures.noted.1;
  most = record { unit = c.note_on.ensures.most.0; card_a = c.note_on.ensures.most.1; card_b = omega arith };
}

pub returns-in-B-clause-behind : goal.returns-in-B-clause-behind
returns-in-B-clause-behind g c = record {
  held =
      record {
        held =
            let e = c.note_on-in-B.ensures in
            held-noted B c.args.gap.slot (now_moment c.args.run.now) c.args.run.now c.note_on-in-B.new.run c.args.breaks.now c.note_on-in-B.new.breaks c.note_on-in-B.ensures.noted.0 c.note_on-in-B.ensures.noted.1 (g.M.Medium.state c.args.unit.now) (g.M.Medium.state c.note_on-in-B.new.unit) (g.D.Chip.state c.args.card_b.now) (g.D.Chip.state c.note_on-in-B.new.card) (g.C.Chip.state c.args.card_a.now) (g.D.Chip.card c.args.card_b.now) (g.D.Chip.card c.note_on-in-B.new.card) (g.C.Chip.card c.args.card_a.now) refl c.requires.power.held e.behind.unit e.behind.card e.behind.size e.stands;
        cause = c.note_on-in-B.ensures.behind.cause;
      };
  going =
      let e = c.note_on-in-B.ensures in
      on_ok c.note_on-in-B.result (λ well. going-noted B c.args.gap.slot (now_moment c.args.run.now) c.args.run.now c.note_on-in-B.new.run c.args.breaks.now c.note_on-in-B.new.breaks c.note_on-in-B.ensures.noted.0 c.note_on-in-B.ensures.noted.1 (g.M.Medium.state c.args.unit.now) (g.M.Medium.state c.note_on-in-B.new.unit) (g.D.Chip.state c.args.card_b.now) (g.D.Chip.state c.note_on-in-B.new.card) (g.C.Chip.state c.args.card_a.now) (g.D.Chip.card c.args.card_b.now) (g.D.Chip.card c.note_on-in-B.new.card) (g.C.Chip.card c.args.card_a.now) c.requires.power.going (ok_gives c.note_on-in-B.result e.behind.ready well) e.behind.card (λ card h. ok_gives c.note_on-in-B.result (e.behind.rows card h) well) e.stands
      (knows-left c.args.run.now.watch.newest (g.M.Medium.state c.args.unit.now) (g.M.Medium.state c.note_on-in-B.new.unit) (g.met.M.Medium.coherent c.args.unit.now) (g.met.M.Medium.coherent c.note_on-in-B.new.unit) c.requires.power.going.ready.unit_ready.works e.writes.speeds));
}

pub returns-in-B-clause-recorded : goal.returns-in-B-clause-recorded
returns-in-B-clause-recorded g c = recorded g (there-b g c) (side-b g c) c.note_on-in-B.ensures

pub returns-in-B-clause-noted : goal.returns-in-B-clause-noted
returns-in-B-clause-noted g c = record {
  fell = (c.note_on-in-B.ensures.shows.events.fell, noted-then g (there-b g c) (side-b g c) c.note_on-in-B.ensures, c.note_on-in-B.ensures.shows.events.failing);
  run = only-noted B c.args.gap.slot (now_moment c.args.run.now) c.args.run.now c.note_on-in-B.new.run c.args.breaks.now c.note_on-in-B.new.breaks c.note_on-in-B.ensures.noted.0 c.note_on-in-B.ensures.noted.1;
  room = room-noted B c.args.gap.slot (now_moment c.args.run.now) c.args.run.now c.note_on-in-B.new.run c.args.breaks.now c.note_on-in-B.new.breaks c.note_on-in-B.ensures.noted.0 c.note_on-in-B.ensures.noted.1 (some g (there-b g c) (side-b g c) c.note_on-in-B.ensures);
}

pub returns-in-B-clause-leaves : goal.returns-in-B-clause-leaves
returns-in-B-clause-leaves g c = record {
  card_events = card-events g (there-b g c) (side-b g c) c.note_on-in-B.ensures;
  places = places g (there-b g c) (side-b g c) c.note_on-in-B.ensures;
  events = notes g (there-b g c) (side-b g c) c.note_on-in-B.ensures;
  rings = c.note_on-in-B.ensures.shows.rings;
  beside = leaves g (there-b g c) (side-b g c) c.note_on-in-B.ensures;
}

pub returns-in-B-clause-goes : goal.returns-in-B-clause-goes
returns-in-B-clause-goes g c = record {
  later = later g (there-b g c) (side-b g c) c.note_on-in-B.ensures;
  calm = calm g (there-b g c) (side-b g c) c.note_on-in-B.ensures;
  more = more-noted B c.args.gap.slot (now_moment c.args.run.now) c.args.run.now c.note_on-in-B.new.run c.args.breaks.now c.note_on-in-B.new.breaks c.note_on-in-B.ensures.noted.0 c.note_on-in-B.ensures.noted.1;
  most = record { unit = c.note_on-in-B.ensures.most.0; card_a = omega arith; card_b = c.note_on-in-B.ensures.most.1 };
}

-- ---- there is nobody to note it for

noted-not : (o : Option Card) (slot : Slot) (at : Moment) (run : Run) (breaks : Listed Break) → IsNotedIn o slot at run run breaks breaks false
noted-not None slot at run breaks = (refl, refl, refl)
noted-not (Some card) slot at run breaks = (record { run = refl; told = no-lines breaks }, λ fell. absurd (let bad : false ≡ true = fell in cc))

pub returns-in_default-clause-recorded : goal.returns-in_default-clause-recorded
returns-in_default-clause-recorded g c = λ o done s out w power. record { goes = w; began = refl }

pub returns-in_default-number_in-clause-recorded : goal.returns-in_default-number_in-clause-recorded
returns-in_default-number_in-clause-recorded g c = λ o done s out w power. record { goes = w; began = refl }

pub returns-in_default-clause-noted : goal.returns-in_default-clause-noted
returns-in_default-clause-noted g c = record {
  fell =
      let run = c.args.run.now in
      (false, noted-not (card_in (seat_in run.keeper.cabin.slots.seats c.args.gap.slot)) c.args.gap.slot (now_moment run) run c.args.breaks.now, λ bad. bad);
  run = refl;
  room = (refl, omega arith);
}

pub returns-in_default-clause-leaves : goal.returns-in_default-clause-leaves
returns-in_default-clause-leaves g c = record {
  card_events =
      let run = c.args.run.now in
      let seat = seat_in run.keeper.cabin.slots.seats c.args.gap.slot in
      let event : CardEvent = card_entry c.args.gap.event run.keeper.memory.registration in
      let none : card_in (seat_in run.keeper.cabin.slots.seats c.args.gap.slot) ≡ None = sym c.card.ensures ∙ none-there c.card.result c.in_default.not-Some in
      let d = devices (g.M.Medium.state c.args.unit.now) (g.C.Chip.state c.args.card_a.now) (g.D.Chip.state c.args.card_b.now) in
      λ card. on-other false seat event card (session_of run.keeper.cabin.cards card) (session_of run.keeper.cabin.cards card) (card_of d card) (seat-none seat card none) refl;
  places =
      let d = devices (g.M.Medium.state c.args.unit.now) (g.C.Chip.state c.args.card_a.now) (g.D.Chip.state c.args.card_b.now) in
      λ card. places-self (session_of c.args.run.now.keeper.cabin.cards card) (card_of d card);
  events =
      let run = c.args.run.now in
      record {
        fell = false;
        noted = noted-not (card_in (seat_in run.keeper.cabin.slots.seats c.args.gap.slot)) c.args.gap.slot (now_moment run) run c.args.breaks.now;
        failing = λ bad. bad;
        notes = same-noted (g.M.Medium.state c.args.unit.now) (g.C.Chip.state c.args.card_a.now) (g.D.Chip.state c.args.card_b.now);
      };
  rings = rings-left (g.M.Medium.state c.args.unit.now);
  beside = λ o done s out w power. (record { unit = λ x h. h; card = λ card x h. h }, λ bad. absurd (let wrong : false ≡ true = bad in cc));
}

pub returns-in_default-clause-behind : goal.returns-in_default-clause-behind
returns-in_default-clause-behind g c = record {
  held =
      record {
        held = c.requires.power.held;
        cause = (no_reads (g.M.Medium.state c.args.unit.now) c.requires.power.going.ready.unit_ready.works).cause;
      };
  going = first_of (search rules, grind (arith, common_steps));
}

pub returns-in_default-clause-goes : goal.returns-in_default-clause-goes
returns-in_default-clause-goes g c = record {
  later = later-same (devices (g.M.Medium.state c.args.unit.now) (g.C.Chip.state c.args.card_a.now) (g.D.Chip.state c.args.card_b.now));
  calm = calm-same (devices (g.M.Medium.state c.args.unit.now) (g.C.Chip.state c.args.card_a.now) (g.D.Chip.state c.args.card_b.now));
  more = omega arith;
  most = wrote-none 4 4 (devices (g.M.Medium.state c.args.unit.now) (g.C.Chip.state c.args.card_a.now) (g.D.Chip.state c.args.card_b.now));
}

pub returns-in_default-number_in-clause-noted : goal.returns-in_default-number_in-clause-noted
returns-in_default-number_in-clause-noted g c = record {
  fell =
      let run = c.args.run.now in
      (false, noted-not (card_in (seat_in run.keeper.cabin.slots.seats c.args.gap.slot)) c.args.gap.slot (now_moment run) run c.args.breaks.now, λ bad. bad);
  run = refl;
  room = (refl, omega arith);
}

pub returns-in_default-number_in-clause-leaves : goal.returns-in_default-number_in-clause-leaves
returns-in_default-number_in-clause-leaves g c = record {
  card_events =
      let run = c.args.run.now in
      let seat = seat_in run.keeper.cabin.slots.seats c.args.gap.slot in
      let event : CardEvent = card_entry c.args.gap.event run.keeper.memory.registration in
      let none : number_of_seat run.keeper.cabin.cards (seat_in run.keeper.cabin.slots.seats c.args.gap.slot) ≡ None = sym c.number_in.ensures ∙ none-there c.number_in.result c.in_default-number_in.not-Some in
      let d = devices (g.M.Medium.state c.args.unit.now) (g.C.Chip.state c.args.card_a.now) (g.D.Chip.state c.args.card_b.now) in
      let ready = c.requires.power.going.ready in
      λ card. bare-seat run.keeper.cabin.cards seat event ready.card_a.is_known ready.card_b.is_known none card (card_of d card);
  places =
      let d = devices (g.M.Medium.state c.args.unit.now) (g.C.Chip.state c.args.card_a.now) (g.D.Chip.state c.args.card_b.now) in
      λ card. places-self (session_of c.args.run.now.keeper.cabin.cards card) (card_of d card);
  events =
      let run = c.args.run.now in
      record {
        fell = false;
        noted = noted-not (card_in (seat_in run.keeper.cabin.slots.seats c.args.gap.slot)) c.args.gap.slot (now_moment run) run c.args.breaks.now;
        failing = λ bad. bad;
        notes = same-noted (g.M.Medium.state c.args.unit.now) (g.C.Chip.state c.args.card_a.now) (g.D.Chip.state c.args.card_b.now);
      };
  rings = rings-left (g.M.Medium.state c.args.unit.now);
  beside = λ o done s out w power. (record { unit = λ x h. h; card = λ card x h. h }, λ bad. absurd (let wrong : false ≡ true = bad in cc));
}

pub returns-in_default-number_in-clause-behind : goal.returns-in_default-number_in-clause-behind
returns-in_default-number_in-clause-behind g c = record {
  held =
      record {
        held = c.requires.power.held;
        cause = (no_reads (g.M.Medium.state c.args.unit.now) c.requires.power.going.ready.unit_ready.works).cause;
      };
  going = first_of (search rules, grind (arith, common_steps));
}

pub returns-in_default-number_in-clause-goes : goal.returns-in_default-number_in-clause-goes
returns-in_default-number_in-clause-goes g c = record {
  later = later-same (devices (g.M.Medium.state c.args.unit.now) (g.C.Chip.state c.args.card_a.now) (g.D.Chip.state c.args.card_b.now));
  calm = calm-same (devices (g.M.Medium.state c.args.unit.now) (g.C.Chip.state c.args.card_a.now) (g.D.Chip.state c.args.card_b.now));
  more = omega arith;
  most = wrote-none 4 4 (devices (g.M.Medium.state c.args.unit.now) (g.C.Chip.state c.args.card_a.now) (g.D.Chip.state c.args.card_b.now));
}

pub note_on-requires-clause-may : goal.note_on-requires-clause-may
note_on-requires-clause-may g c = record {
  ready = first_of (search rules, grind (arith, common_steps));
  card = first_of (search rules, grind (arith, common_steps));
  session = first_of (search rules, grind (arith, common_steps));
  minute = first_of (search rules, grind (arith, common_steps));
  second = first_of (search rules, grind (arith, common_steps));
  room = first_of (search rules, grind (arith, common_steps));
}

pub note_on-requires-in-B-clause-may : goal.note_on-requires-in-B-clause-may
note_on-requires-in-B-clause-may g c = record {
  ready = first_of (search rules, grind (arith, common_steps));
  card = first_of (search rules, grind (arith, common_steps));
  session = first_of (search rules, grind (arith, common_steps));
  minute = first_of (search rules, grind (arith, common_steps));
  second = first_of (search rules, grind (arith, common_steps));
  room = first_of (search rules, grind (arith, common_steps));
}

pub note_on-requires-clause-gap : goal.note_on-requires-clause-gap
note_on-requires-clause-gap g c = c.requires.gap

pub note_on-requires-in-B-clause-gap : goal.note_on-requires-in-B-clause-gap
note_on-requires-in-B-clause-gap g c = c.requires.gap
