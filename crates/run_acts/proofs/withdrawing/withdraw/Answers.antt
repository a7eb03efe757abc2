use Rattle.std.proofs.lemmas.Grind.{common_steps}
use Rattle.std.proofs.Common.{rules, ◌≡◌, ◌∙◌, inl, inr, ℕ, ◌+◌, ◌/◌, ◌≤◌, Bool, true, false, not, Option, Some, None, is_some, List, ◌++◌, All, length, refl, ap, sym, subst, arith, ◌^◌, ◌<◌}
use Rattle.std.specs.Prelude.{is_err, suc, [], ◌∷◌, IfSome}
use Rattle.trace_model.specs.declared.Card.{Card}
use Rattle.trace_model.specs.declared.Card.TheVariants.{A, B}
use Rattle.tach_media.proofs.Runs.{on_ok, ok_gives, cause_after, no_reads}
use Rattle.activity_codec.specs.declared.values.Slot.{Slot}
use Rattle.unit_model.specs.minute_model.declared.Minute.{Minute}
use Rattle.unit_model.specs.minute_model.Span.{Span, settled, decided_in, ungiven_of}
use Rattle.minute_rules.specs.Kept.{CountsSpan}
use Rattle.device_calls.specs.safety_model.Safe.{Devices}
use Rattle.run_minutes.specs.run_promise.Between.{devices}
use Rattle.log_model.specs.declared.lines.Break.{Break}
use Rattle.run_crew.specs.card_slots.Calls.{seat_in, card_in, logged}
use Rattle.run_crew.specs.declared.cabin.Cabin.{Cabin}
use Rattle.run_crew.specs.Cards.{session_of}
use Rattle.run_crew.specs.Cabin.{CabinIsSound, with_slot_left}
use Rattle.run_outcome.specs.Lines.{Listed}
use Rattle.run_outcome.specs.declared.outcome.Outcome.{Outcome}
use Rattle.run_minutes.specs.declared.keeper.Moment.{Moment}
use Rattle.run_minutes.specs.Keeping.{HasLeftMore, tears_of}
use Rattle.run_minutes.specs.Minutes.{KeepingState, Reach, IsReach}
use Rattle.run_minutes.proofs.Counts.{lines-length}
use Rattle.run_acts.specs.declared.run.Run.{Run}
use Rattle.run_acts.specs.Power.{with_cabin}
use Rattle.run_acts.specs.Going.{CanBeCut, RunHasPower, RunHasPowerAllSeated}
use Rattle.run_acts.specs.Room.{waiting_of, falls_of, Takes}
use Rattle.run_acts.proofs.GoesOn.{settled-left, settled-later, settled-noted}
use Rattle.run_acts.proofs.Torn.{tears-without}
use Rattle.run_acts.specs.Behind.{BooksWithdrawn}
use Rattle.run_acts.proofs.Withdrawn.{withdrawn-cut, withdrawn-closed, time-before}
use Rattle.run_acts.specs.Acting.{Closing, told_of, IsSettled, IsWithdrawn, closed_cabin, closed_breaks, closed_falls, left_run, IsClosed}
use Rattle.run_acts.proofs.Leaving.{left-going, left-held, left-falls, closed-falls}
use Rattle.run_acts.proofs.Cabins.{cabin-only}
use Rattle.log_model.specs.Log.{In}
use Rattle.run_acts.specs.Recording.{RunFails, GoesOnOrFails, log_of, values_of, IsNow, RunWithin}
use Rattle.run_acts.specs.Settling.{RecordsSettling}
use Rattle.run_acts.proofs.Asked.{withdraws-one}
use Rattle.run_acts.proofs.WithdrawnRecorded.{acting_at, moment-is, settling-cut, closing-recorded, settled-evented, closing-evented, untorn-then, sat-there, settled-still, settled-places, settled-stands, closed-places, closed-still, closed-shuts}
use Rattle.run_events.specs.run_rings.Spans.{with_second}
use Rattle.run_note_record.specs.OnCards.{CardsGo}
use Rattle.run_note_record.specs.Sessions.{EndsIf}
use Rattle.run_acts.proofs.CardPlaces.{ends-then}
use Rattle.run_acts.proofs.SessionsClosed.{closes-alike}
use Rattle.run_acts.proofs.Readings.{spans-here}
use Rattle.run_acts.specs.Faults.{NotesSettling}
use Rattle.run_acts.specs.Noting.{NotesWithdrawing, closed_events}
use Rattle.run_acts.proofs.NotedEvents.{same-noted, noted-any}
use Rattle.run_acts.proofs.ActsNoted.{settles-these, withdrawal-cut, withdrawal-noted, closing-any, same-closing}
use Rattle.run_events.proofs.run_rings.Same.{rings-left}
use Rattle.run_acts.specs.Ringing.{WithdrawsSo, ClosesRings}
use Rattle.run_acts.proofs.Comings.{closes-more}
use Rattle.run_acts.proofs.Ringing.{settling-leaves, closes-behind}
use Rattle.run_events.proofs.Newest.{knows-left}
use Rattle.run_minutes.proofs.Later.{state-by, later-same, later-then}
use Rattle.tach_media.specs.Medium.{State, LeavesOnly, HasBroken, HasCause}
use Rattle.run_note_record.specs.Noting.{Acting}
use Rattle.run_acts.specs.NotedEvents.{NotesEvents}
use Rattle.run_acts.specs.Evented.{EventsGoOn, EventsSettling}
use Rattle.activity_codec.specs.declared.values.Activity.{Activity}
use Rattle.trace_model.specs.declared.Action.TheVariants.{Withdraw}
use Rattle.device_calls.specs.card_session.Sessions.{IsSession}
use Rattle.device_calls.specs.card_session.Cards.{IsCardClosing}
use Rattle.run_events.specs.message_model.Records.{insertion_ring}
use Rattle.run_crew.specs.declared.cards.Accepted.{Accepted}
use Rattle.run_acts.specs.RunRinged.{RingsGoOn, RingsWithin}
use Rattle.run_acts.proofs.Settled.{settled-decides}
use Rattle.run_acts.proofs.SettledRecorded.{same-ungiven}
use Rattle.run_acts.proofs.RingedSecond.{more-left}
use Rattle.run_acts.proofs.RingedClosed.{settling-ringed, closing-ringed, gone-told}
use Rattle.run_acts.specs.RunCards.{CardsSettling, PlacesSettling, StillShow, CardsGoOn, CardsIn}
use Rattle.run_acts.specs.Stood.{LetStand, StandsSettling}
use Rattle.run_acts.proofs.Stood.{let-left, vehicles-make}
use Rattle.run_acts.proofs.CardStays.{shows-then}
use Rattle.run_acts.proofs.KeptSeats.{stood-later}
use Rattle.run_acts.proofs.CardActs.{TellsLines, settled-lines, closed-lines, quiet-goes}
use Rattle.run_acts.specs.CardWrites.{ClosesCard, ShutsThen, WithdrawsShut, IsShut}
use Rattle.run_acts.proofs.CardWrites.{withdrawn-shut}
use Rattle.run_minutes.proofs.Calm.{calm-same, calm-then}
use Rattle.trace_model.specs.declared.Action.{Action}
use Rattle.run_minutes.specs.Later.{AreCalm, AreLater}
use Rattle.run_acts.specs.Devices.{AreLeftMore}
use Rattle.run_minutes.specs.Decided.{BooksAll}
use Rattle.card_files.specs.card_layout.declared.command.CardState.{CardState}
use Rattle.run_note_record.specs.EventsSoFar.{EventedNow}
use Rattle.run_minutes.specs.run_promise.Beside.{HaveLeftMore}
use Rattle.run_minutes.specs.Books.{HaveTime}
use Rattle.run_acts.proofs.OneCard.{OneCard, calm-by, keeps-by, later-by, fell-by, unit-is, card-is, none-there, on_a, on_b, held-closed, going-closed}
use Rattle.run_minutes.specs.run_promise.Origin.{Origin}
use Rattle.unit_notes.specs.note_model.Odometer.{SpanFrom}
use Rattle.trace_model.specs.Trace.{TraceSecond}
use Rattle.run_minutes.specs.run_devices.Told.{arranged}
use Rattle.log_model.specs.Slots.{refusal}
use Rattle.run_events.specs.run_rings.Same.{LeavesRings}
use Rattle.run_acts.specs.Acts.{ClosesSession}
use Rattle.run_acts.proofs.withdrawing.withdraw.Given.{Over}
use Rattle.run_acts.proofs.withdrawing.withdraw.Goals.{In_ok-settle, In_default, After-from_residual, After-close, After-close-in-B}
use Rattle.run_minutes.proofs.Writes.{wrote-none, wrote-more}
use Rattle.run_acts.proofs.withdrawing.withdraw.Goals as goal

-- ---- a card that has left its slot

-- what is known of the run that it has left, by its cabin and its moment
left-there : (P : Moment → Run → Type 0) (slot : Slot) (at here : Moment) (run : Run) (left : Cabin) → left ≡ with_slot_left slot at.second run.keeper.cabin → at ≡ here → P at (with_cabin left run) → P here (left_run slot here.second run)
left-there P slot at here run left is moment h = subst (λ (m : Moment). P m (left_run slot m.second run)) moment (subst (λ (b : Cabin). P at (with_cabin b run)) is h)

module _ {U A0 B0 : State} {chip_a chip_b : CardState} where
  left-lit : (slot : Slot) (card : Card) (second : ℕ) (run : Run) (left : Cabin) → RunHasPowerAllSeated (run.next / 60) run U chip_a chip_b A0 B0 → left ≡ with_slot_left slot second run.keeper.cabin → ((from : ℕ) → CabinIsSound from None run.keeper.cabin → CabinIsSound from (Some card) left)
      → RunHasPower (Some card) (run.next / 60) (with_cabin left run) U chip_a chip_b A0 B0
  left-lit slot card second run left lit is stands =
      subst (λ (b : Cabin). RunHasPower (Some card) (run.next / 60) (with_cabin b run) U chip_a chip_b A0 B0) (sym is)
      (left-going slot card second run (run.next / 60) lit (λ from h. subst (λ (b : Cabin). CabinIsSound from (Some card) b) is (stands from h)))

pub settle-requires-clause-may : goal.settle-requires-clause-may
settle-requires-clause-may g c = record {
  lit = c.requires.acting.lit;
  low = c.requires.acting.low;
  small = c.requires.acting.small;
  held =
      let run = c.args.run.now in
      let card = c.in-Some.card in
      let second : ℕ = c.args.withdrawal.at.second in
      let here = c.requires.at in
      let there : card_in (seat_in run.keeper.cabin.slots.seats c.args.withdrawal.slot) ≡ Some card = cc in
      let u = ungiven_of c.requires.acting.going.span in
      let stands = subst (λ (b : Cabin). CabinIsSound u (Some card) b) c.leave.ensures.kept (c.leave.ensures.stands u card there c.requires.acting.going.cabin) in
      subst (λ (b : Cabin). CanBeCut (run.next / 60) (with_cabin b run) (g.M.Medium.state c.args.unit.now) (g.C.Chip.card c.args.card_a.now) (g.D.Chip.card c.args.card_b.now) (g.C.Chip.state c.args.card_a.now) (g.D.Chip.state c.args.card_b.now)) (sym c.leave.ensures.kept)
      (left-held c.args.withdrawal.slot card second run (run.next / 60) c.requires.acting.held (omega (arith, here)) u stands);
  going =
      let there : card_in (seat_in c.args.run.now.keeper.cabin.slots.seats c.args.withdrawal.slot) ≡ Some c.in-Some.card = cc in
      (Some c.in-Some.card, left-lit c.args.withdrawal.slot c.in-Some.card c.args.withdrawal.at.second c.args.run.now c.leave.new.self c.requires.acting.going c.leave.ensures.kept (λ from h. c.leave.ensures.stands from c.in-Some.card there h));
}

-- ---- the minutes before are kept

module _ (g : Over) (c : In_ok-settle g) where
  abbrev first : Devices
  first = devices (g.M.Medium.state c.args.unit.now) (g.C.Chip.state c.args.card_a.now) (g.D.Chip.state c.args.card_b.now)

  seat-of : (card : Card) → c.in-Some.card ≡ card → card_in (seat_in c.args.run.now.keeper.cabin.slots.seats c.args.withdrawal.slot) ≡ Some card
  seat-of card is = cc

  going-with : (card : Card) → c.in-Some.card ≡ card → RunHasPower (Some card) (c.settle.new.run.next / 60) c.settle.new.run (g.M.Medium.state c.settle.new.unit) (g.C.Chip.card c.settle.new.card_a) (g.D.Chip.card c.settle.new.card_b) (g.C.Chip.state c.settle.new.card_a) (g.D.Chip.state c.settle.new.card_b)
  going-with card is =
      c.in_ok-settle.ensures.stands.going (Some card)
      (left-lit c.args.withdrawal.slot card c.args.withdrawal.at.second c.args.run.now c.leave.new.self c.requires.acting.going c.leave.ensures.kept (λ from h. c.leave.ensures.stands from card (seat-of card is) h))

  at-then : c.args.withdrawal.at.second ≡ c.settle.new.run.next
  at-then = c.requires.at ∙ sym (ap (λ (r : Run). r.next) c.settle.ensures.settled.only)

  -- what left its slot can still fall out of it
  falls-left : falls_of c.leave.new.self ≤ falls_of c.args.run.now.keeper.cabin
  falls-left =
      let left = ap falls_of c.leave.ensures.kept in
      let less = left-falls c.args.withdrawal.slot c.args.withdrawal.at.second c.args.run.now.keeper.cabin in
      omega (arith, left, less)

  room-left : (card : Card) → length c.settle.new.outcome.breaks.items + tears_of (session_of c.settle.new.run.keeper.cabin.cards card) ≤ c.settle.new.outcome.breaks.room
  room-left card =
      let falls = falls-left in
      let b = c.settle.ensures.takes.breaks in
      let room = c.requires.breaks in
      let same = c.settle.ensures.takes.rooms.1 in
      let tears = tears-without card c.settle.new.run.keeper.cabin.cards in
      omega (arith, b, falls, room, same, tears)

  settled-first : IsSettled c.args.withdrawal.at false (left_run c.args.withdrawal.slot c.args.withdrawal.at.second c.args.run.now) c.settle.new.run c.args.outcome.now c.settle.new.outcome
  settled-first = left-there (λ m run. IsSettled m false run c.settle.new.run c.args.outcome.now c.settle.new.outcome) c.args.withdrawal.slot c.args.withdrawal.at c.args.withdrawal.at c.args.run.now c.leave.new.self c.leave.ensures.kept refl c.in_ok-settle.ensures.settled

pub close-requires-clause-ready : goal.close-requires-clause-ready
close-requires-clause-ready g c = (going-with g (goal.at.close-requires-clause-ready g c).In_ok-settle A c.in-A.is).ready.unit_ready

pub close-requires-clause-may : goal.close-requires-clause-may
close-requires-clause-may g c = record {
  card = (going-with g (goal.at.close-requires-clause-may g c).In_ok-settle A c.in-A.is).ready.card_a;
  entry = (going-with g (goal.at.close-requires-clause-may g c).In_ok-settle A c.in-A.is).entries A;
  odometer = first_of (search rules, grind (arith, common_steps));
  minute = first_of (search rules, grind (arith, common_steps));
  second = first_of (search rules, grind (arith, common_steps));
  room = room-left g (goal.at.close-requires-clause-may g c).In_ok-settle A;
}

pub close-requires-in-B-clause-ready : goal.close-requires-in-B-clause-ready
close-requires-in-B-clause-ready g c = (going-with g (goal.at.close-requires-in-B-clause-ready g c).In_ok-settle B c.in-B.is).ready.unit_ready

pub close-requires-in-B-clause-may : goal.close-requires-in-B-clause-may
close-requires-in-B-clause-may g c = record {
  card = (going-with g (goal.at.close-requires-in-B-clause-may g c).In_ok-settle B c.in-B.is).ready.card_b;
  entry = (going-with g (goal.at.close-requires-in-B-clause-may g c).In_ok-settle B c.in-B.is).entries B;
  odometer = first_of (search rules, grind (arith, common_steps));
  minute = first_of (search rules, grind (arith, common_steps));
  second = first_of (search rules, grind (arith, common_steps));
  room = room-left g (goal.at.close-requires-in-B-clause-may g c).In_ok-settle B;
}

-- ---- and its session is closed

-- an entry is one of the ring
entry-of : (n : ℕ) (q : Option Accepted) → IfSome q (λ x. (x.entry < insertion_ring.count) × (x.noted ≤ n)) → IfSome q (λ x. x.entry < insertion_ring.count)
entry-of n None h = tt
entry-of n (Some x) h = h.0

-- a card whose session is closed was called alone, or not at all
closing-left : {C : Type 0} (state : C → State) (x y : C) (q : Option Accepted) → IfSome q (λ s. (act : Activity) × LeavesOnly (state x) (state y) (λ i n. IsSession s.session i → IsCardClosing s.session act i n)) → (q ≡ None → y ≡ x) → HasLeftMore (state x) (state y)
closing-left {C} state x y None h same = subst (λ (z : C). HasLeftMore (state x) (state z)) (sym (same refl)) (λ t c le at. at)
closing-left {C} state x y (Some s) h same = h.1.keeps

abbrev Booked : (slot : Slot) (at : Moment) (card : Card) (failed : Bool) (run new : Run) (before after : Outcome) (d e : Devices) (left : Cabin) → Type 0
Booked slot at card failed run new before after d e left = (decided : List Minute) × (reach : Reach) × (closing : Option Closing) × (between : KeepingState)
    × ((span : Span) → CountsSpan run.minutes span → decided_in (settled span) ≡ decided_in span ++ decided)
    × IsReach decided at (not (is_some closing)) (told_of (with_cabin left run) before) between reach
    × BooksWithdrawn card decided failed reach closing (told_of (with_cabin left run) before) (told_of new after) d e

module _ (g : Over) (c : In_ok-settle g) (k : OneCard c.in-Some.card (g.C.Chip.state c.settle.new.card_a) (g.D.Chip.state c.settle.new.card_b)) (closes : ClosesSession k.which c.args.withdrawal.slot c.args.withdrawal.at k.result c.settle.new.run k.new c.settle.new.outcome.breaks k.breaks (g.M.Medium.state c.settle.new.unit) k.unit (k.state k.before) (k.state k.after) (k.chip k.after))
    (bare : session_of c.settle.new.run.keeper.cabin.cards k.which ≡ None → k.after ≡ k.before) where
  abbrev first_ : Devices
  first_ = first g c

  abbrev between : Devices
  between = arranged k.which (g.M.Medium.state c.settle.new.unit) (k.state k.before) k.beside

  abbrev last : Devices
  last = arranged k.which k.unit (k.state k.after) k.beside

  abbrev told : Outcome
  told = record c.settle.new.outcome { breaks = k.breaks }

  seat : card_in (seat_in c.args.run.now.keeper.cabin.slots.seats c.args.withdrawal.slot) ≡ Some k.which
  seat = seat-of g c k.which k.is

  withdrawn : IsWithdrawn (card_in (seat_in c.args.run.now.keeper.cabin.slots.seats c.args.withdrawal.slot)) c.args.withdrawal.slot c.args.withdrawal.at (is_err k.result) c.args.run.now k.new c.args.outcome.now told
  withdrawn =
      let n = closes.closed in
      subst (λ (q : Option Card). IsWithdrawn q c.args.withdrawal.slot c.args.withdrawal.at (is_err k.result) c.args.run.now k.new c.args.outcome.now told) (sym seat)
      (inr (record { between = c.settle.new.run; told = c.settle.new.outcome; settled_first = settled-first g c; closing = n.0; closed = n.1; outcome = refl }))

  only : k.new ≡ record c.args.run.now { minutes = k.new.minutes; keeper = k.new.keeper }
  only = cabin-only c.args.run.now c.settle.new.run k.new (closed_cabin closes.closed.0 k.which c.args.withdrawal.at.second c.settle.new.run.keeper.cabin) c.settle.ensures.settled.only closes.closed.1.run

  rest_ : told ≡ record c.args.outcome.now { marks = told.marks; breaks = told.breaks }
  rest_ = ap (λ (o : Outcome). record o { breaks = k.breaks }) c.settle.ensures.settled.outcome

  lines : length k.breaks.items ≡ length c.settle.new.outcome.breaks.items + length (closed_breaks closes.closed.0 c.args.withdrawal.slot c.args.withdrawal.at)
  lines = ap (λ (l : Listed Break). length l.items) closes.closed.1.told ∙ lines-length (closed_breaks closes.closed.0 c.args.withdrawal.slot c.args.withdrawal.at) c.settle.new.outcome.breaks

  takes : Takes 0 0 0 c.args.run.now k.new c.args.outcome.now told
  takes =
      let n = closes.closed in
      let t = c.settle.ensures.takes in
      let b = t.breaks in
      let m = t.marks in
      let left = falls-left g c in
      let falls = closed-falls k.which c.args.withdrawal.at.second c.settle.new.run.keeper.cabin n.0 c.args.withdrawal.slot c.args.withdrawal.at n.1.is in
      let same = ap (λ (r : Run). falls_of r.keeper.cabin) n.1.run in
      let waits = ap waiting_of n.1.run in
      let length_is = lines in
      record {
        rooms = (t.rooms.0, ap (λ (l : Listed Break). l.room) n.1.told ∙ t.rooms.1, t.rooms.2, t.rooms.3);
        marks = omega (arith, m, waits);
        breaks = omega (arith, b, left, falls, same, length_is);
        finds = t.finds;
        refused = t.refused;
      }

  more : length c.args.outcome.now.breaks.items ≤ length k.breaks.items
  more = let told_more = c.settle.ensures.goes.keeping.all.more in let length_is = lines in omega (arith, told_more, length_is)

  later : AreLater first_ last
  later =
      later-then first_ between last (subst (λ (m : Devices). AreLater first_ m) (k.beside_it (g.M.Medium.state c.settle.new.unit)) (settled-later c.settle.ensures.goes.keeping c.settle.ensures.goes.speeds))
      (later-by k.which (g.M.Medium.state c.settle.new.unit) k.unit (k.state k.before) (k.state k.after) k.beside (state-by (g.M.Medium.state c.settle.new.unit) k.unit _ closes.writes.journal.later closes.behind.cause) closes.goes.later closes.writes.speeds)

  calm : AreCalm c.args.outcome.now.breaks.items k.breaks.items first_ last
  calm =
      calm-then first_ between last (subst (λ (m : Devices). AreCalm c.args.outcome.now.breaks.items c.settle.new.outcome.breaks.items first_ m) (k.beside_it (g.M.Medium.state c.settle.new.unit)) c.settle.ensures.goes.keeping.all.calm)
      (calm-by k.which (g.M.Medium.state c.settle.new.unit) k.unit (k.state k.before) (k.state k.after) k.beside closes.goes.calm)

  -- which card it is that was there
  same-card : (card : Card) → card_in (seat_in c.args.run.now.keeper.cabin.slots.seats c.args.withdrawal.slot) ≡ Some card → k.which ≡ card
  same-card card there = let mine = seat in cc

  books : BooksAll c.in_ok-settle.ensures.keeps.decided false c.in_ok-settle.ensures.keeps.reach (told_of (with_cabin c.leave.new.self c.args.run.now) c.args.outcome.now) (told_of c.settle.new.run c.settle.new.outcome) first_ between
  books =
      let b = c.in_ok-settle.ensures.keeps in
      subst (λ (m : Devices). BooksAll b.decided false b.reach (told_of (with_cabin c.leave.new.self c.args.run.now) c.args.outcome.now) (told_of c.settle.new.run c.settle.new.outcome) first_ m) (k.beside_it (g.M.Medium.state c.settle.new.unit)) b.books

  booked : (card : Card) → card_in (seat_in c.args.run.now.keeper.cabin.slots.seats c.args.withdrawal.slot) ≡ Some card → Booked c.args.withdrawal.slot c.args.withdrawal.at card (is_err k.result) c.args.run.now k.new c.args.outcome.now told first_ last (with_slot_left c.args.withdrawal.slot c.args.withdrawal.at.second c.args.run.now.keeper.cabin)
  booked card there =
      let n = closes.closed in
      let b = c.in_ok-settle.ensures.keeps in
      let v = told_of c.settle.new.run c.settle.new.outcome in
      subst (λ (q : Card). Booked c.args.withdrawal.slot c.args.withdrawal.at q (is_err k.result) c.args.run.now k.new c.args.outcome.now told first_ last (with_slot_left c.args.withdrawal.slot c.args.withdrawal.at.second c.args.run.now.keeper.cabin)) (same-card card there)
      (subst (λ (left : Cabin). Booked c.args.withdrawal.slot c.args.withdrawal.at k.which (is_err k.result) c.args.run.now k.new c.args.outcome.now told first_ last left) c.leave.ensures.kept (
        b.decided,
        b.reach,
        Some n.0,
        v,
        b.given,
        b.is,
        withdrawn-closed k.state k.which c.args.withdrawal.at.second (g.M.Medium.state c.settle.new.unit) k.unit k.beside k.before k.after (g.met.M.Medium.coherent c.settle.new.unit) k.whole k.size closes.writes.journal (is_err k.result) closes.behind.cause.works n.0 b.decided c.args.withdrawal.at
            (told_of (with_cabin c.leave.new.self c.args.run.now) c.args.outcome.now) v (told_of k.new told) first_ closes.shows.left bare n.1.is (ap (λ (r : Run). r.keeper.cabin.cards) n.1.run) refl b.reach b.is books,
      ))

  shut : (card : Card) → card_in (seat_in c.args.run.now.keeper.cabin.slots.seats c.args.withdrawal.slot) ≡ Some card → WithdrawsShut card c.args.withdrawal.slot c.args.withdrawal.at (is_err k.result) c.args.run.now k.new c.args.outcome.now told first_ last
  shut card there =
      let n = closes.shows.shut in
      let b = c.in_ok-settle.ensures.keeps in
      subst (λ (q : Card). WithdrawsShut q c.args.withdrawal.slot c.args.withdrawal.at (is_err k.result) c.args.run.now k.new c.args.outcome.now told first_ last) (same-card card there)
      (inr (record {
        behind = record { between = c.settle.new.run; told = c.settle.new.outcome; settled_first = settled-first g c; closing = n.closing; closed = n.closed; outcome = refl };
        decided = b.decided;
        given = b.given;
        act = n.act;
        selected = n.selected;
        shut = λ how.
            subst (λ (left : Cabin). ShutsThen k.which b.decided (told_of (with_cabin left c.args.run.now) c.args.outcome.now) (session_of c.settle.new.run.keeper.cabin.cards k.which) n.act first_ last) c.leave.ensures.kept
            (λ f w start t may gone stored time valid.
            subst (λ (x : State). IsShut (session_of c.settle.new.run.keeper.cabin.cards k.which) n.act x) (card-is k.which k.unit (k.state k.after) k.beside)
            (withdrawn-shut k.which (g.M.Medium.state c.settle.new.unit) k.unit (k.state k.before) (k.state k.after) k.beside closes.writes.journal closes.goes.later.clock n.closing b.decided c.args.withdrawal.at (told_of (with_cabin c.leave.new.self c.args.run.now) c.args.outcome.now) (told_of c.settle.new.run c.settle.new.outcome) first_ n.act n.closes b.reach b.is books
            how f w start t may gone stored time valid));
        fell = λ is.
            let same = same-closing k.which c.args.withdrawal.slot c.args.withdrawal.at c.settle.new.run k.new c.settle.new.outcome.breaks k.breaks n.closing closes.closed.0 n.closed closes.closed.1 in
            let one : closed_falls closes.closed.0 ≡ 1 = sym same ∙ ap closed_falls is in
            fell-by k.which first_ (g.M.Medium.state c.settle.new.unit) k.unit (k.state k.before) (k.state k.after) k.beside (subst (λ (m : Devices). AreLater first_ m) (k.beside_it (g.M.Medium.state c.settle.new.unit)) (settled-later c.settle.ensures.goes.keeping c.settle.ensures.goes.speeds))
            (subst (λ (x : ℕ). HasBroken (k.state k.before) (k.state k.after) x) one closes.closed.2);
      }))

  events : NotesWithdrawing (card_in (seat_in c.args.run.now.keeper.cabin.slots.seats c.args.withdrawal.slot)) c.args.withdrawal.slot c.args.withdrawal.at (is_err k.result) c.args.run.now k.new c.args.outcome.now told first_ last
  events =
      let settling = left-there (λ m run. NotesSettling m false run c.settle.new.run c.args.outcome.now c.settle.new.outcome (g.M.Medium.state c.args.unit.now) (g.M.Medium.state c.settle.new.unit)) c.args.withdrawal.slot c.args.withdrawal.at c.args.withdrawal.at c.args.run.now c.leave.new.self c.leave.ensures.kept refl (settled-noted c.in_ok-settle.ensures.keeps) in
      let these = settles-these c.args.withdrawal.at false (left_run c.args.withdrawal.slot c.args.withdrawal.at.second c.args.run.now) c.settle.new.run c.args.outcome.now c.settle.new.outcome (g.M.Medium.state c.args.unit.now) (g.M.Medium.state c.settle.new.unit) (g.C.Chip.state c.args.card_a.now) (g.D.Chip.state c.args.card_b.now) (g.C.Chip.state c.settle.new.card_a) (g.D.Chip.state c.settle.new.card_b) (g.met.M.Medium.coherent c.args.unit.now) c.requires.acting.held.is_unit settling in
      withdrawal-noted (card_in (seat_in c.args.run.now.keeper.cabin.slots.seats c.args.withdrawal.slot)) k.which seat c.args.withdrawal.slot c.args.withdrawal.at (is_err k.result) c.args.run.now c.settle.new.run k.new c.args.outcome.now c.settle.new.outcome k.breaks first_ between last these.0 these.1 (subst (λ (m : Devices). NotesEvents these.0 false first_ m) (k.beside_it (g.M.Medium.state c.settle.new.unit)) these.2)
      (closing-any k.which c.args.withdrawal.slot c.args.withdrawal.at (is_err k.result) c.settle.new.run k.new c.settle.new.outcome.breaks k.breaks (devices (g.M.Medium.state c.settle.new.unit) (k.state k.before) (k.state k.before)) (devices k.unit (k.state k.after) (k.state k.after)) between last
      (unit-is k.which (g.M.Medium.state c.settle.new.unit) (k.state k.before) k.beside) (unit-is k.which k.unit (k.state k.after) k.beside) closes.shows.events)

  leaves : LeavesRings (g.M.Medium.state c.args.unit.now) (g.M.Medium.state c.settle.new.unit)
  leaves = settling-leaves c.args.withdrawal.at false (with_cabin c.leave.new.self c.args.run.now) c.settle.new.run c.args.outcome.now c.settle.new.outcome (g.M.Medium.state c.args.unit.now) (g.M.Medium.state c.settle.new.unit) (settled-noted c.in_ok-settle.ensures.keeps)

  rings_ : is_some (g.M.Medium.state c.args.unit.now).image ≡ true → WithdrawsSo (card_in (seat_in c.args.run.now.keeper.cabin.slots.seats c.args.withdrawal.slot)) c.args.withdrawal.slot c.args.withdrawal.at (is_err k.result) c.args.run.now k.new c.args.outcome.now told (g.M.Medium.state c.args.unit.now) k.unit
  rings_ tells =
      let n = closes.shows.rings (c.in_ok-settle.ensures.goes.keeping.unit_tells ∙ tells) in
      subst (λ (q : Option Card). WithdrawsSo q c.args.withdrawal.slot c.args.withdrawal.at (is_err k.result) c.args.run.now k.new c.args.outcome.now told (g.M.Medium.state c.args.unit.now) k.unit) (sym seat)
      (inr (record {
        closed = record { between = c.settle.new.run; told = c.settle.new.outcome; settled_first = settled-first g c; closing = n.closing; closed = n.closed; outcome = refl };
        rings = closes-behind n.closing (session_of c.settle.new.run.keeper.cabin.cards k.which) c.args.withdrawal.at (is_err k.result) c.settle.new.run (g.M.Medium.state c.args.unit.now) (g.M.Medium.state c.settle.new.unit) k.unit leaves n.rings;
      }))

  -- in a second of a trace, behind the actions before it
  module _ (late : c.args.withdrawal.at.late ≡ false) (speed : ℕ) (o : Origin) (done : List TraceSecond) (s : TraceSecond) (now : IsNow s speed c.args.run.now) (front rest : List Action) (are : s.actions ≡ front ++ Withdraw c.args.withdrawal.slot ∷ rest) (n : c.args.withdrawal.at.begun ≡ suc (length front))
      (allowed : refusal (logged c.args.run.now.keeper.cabin.slots.seats) speed (Withdraw c.args.withdrawal.slot) ≡ None) (w : RunWithin o done s (In (length front)) [] [] c.args.run.now c.args.outcome.now first_) (time : HaveTime last) where
    moment : c.args.withdrawal.at ≡ acting_at s.number (suc (length front))
    moment = moment-is c.args.withdrawal.at s.number (suc (length front)) (c.requires.at ∙ sym now.number) n late

    small : s.number < 2 ^ 32
    small = let low = c.requires.acting.small in let same = now.number in omega (arith, low, same)

    minutes : CountsSpan c.settle.new.run.minutes (settled w.within.sp)
    minutes = c.in_ok-settle.ensures.settled.minutes w.within.sp w.within.minutes

    time-then : HaveTime between
    time-then = time-before k.which (g.M.Medium.state c.settle.new.unit) k.unit (k.state k.before) (k.state k.after) k.beside closes.writes.journal.later closes.goes.later.clock time

    records : RecordsSettling c.in_ok-settle.ensures.keeps.decided (acting_at s.number (suc (length front))) false (left_run c.args.withdrawal.slot s.number c.args.run.now) c.settle.new.run c.args.outcome.now c.settle.new.outcome first_ between
    records = left-there (λ m run. RecordsSettling c.in_ok-settle.ensures.keeps.decided m false run c.settle.new.run c.args.outcome.now c.settle.new.outcome first_ between) c.args.withdrawal.slot c.args.withdrawal.at (acting_at s.number (suc (length front))) c.args.run.now c.leave.new.self c.leave.ensures.kept moment
        (subst (λ (m : Devices). RecordsSettling c.in_ok-settle.ensures.keeps.decided c.args.withdrawal.at false (with_cabin c.leave.new.self c.args.run.now) c.settle.new.run c.args.outcome.now c.settle.new.outcome first_ m) (k.beside_it (g.M.Medium.state c.settle.new.unit)) c.in_ok-settle.ensures.keeps.recorded)

    abbrev kept : IsSettled (acting_at s.number (suc (length front))) false (left_run c.args.withdrawal.slot s.number c.args.run.now) c.settle.new.run c.args.outcome.now c.settle.new.outcome
    kept = left-there (λ m run. IsSettled m false run c.settle.new.run c.args.outcome.now c.settle.new.outcome) c.args.withdrawal.slot c.args.withdrawal.at (acting_at s.number (suc (length front))) c.args.run.now c.leave.new.self c.leave.ensures.kept moment c.in_ok-settle.ensures.settled

    session-then : session_of c.leave.new.self.cards k.which ≡ session_of c.args.run.now.keeper.cabin.cards k.which
    session-then = ap (λ (b : Cabin). session_of b.cards k.which) c.leave.ensures.kept

    recorded : GoesOnOrFails (is_err k.result) o done s (In c.args.withdrawal.at.begun) [] k.new told last w.within.b
    recorded =
        let going = going-with g c k.which k.is in
        let r = c.in_ok-settle.ensures.keeps in
        let n_ = closes.closed in
        let rung = closes.shows.rings (c.settle.ensures.goes.keeping.unit_tells ∙ w.within.there.unit) in
        subst (λ (q : ℕ). GoesOnOrFails (is_err k.result) o done s (In q) [] k.new told last w.within.b) (sym n)
        (closing-recorded o done s front rest c.args.withdrawal.slot are speed now.speed_is k.which c.args.run.now c.settle.new.run c.args.outcome.now c.settle.new.outcome first_ w seat allowed (ungiven_of c.requires.acting.going.span) c.requires.acting.going.cabin minutes r.decided (r.given w.within.sp w.within.minutes)
        k.state (g.M.Medium.state c.settle.new.unit) k.unit k.beside k.before k.after (g.met.M.Medium.coherent c.settle.new.unit) k.whole k.size closes.shows.left bare closes.writes.journal (is_err k.result) closes.behind.cause going.span going.stands going.next
        records time-then c.args.withdrawal.at c.in_ok-settle.ensures.settled.decided (told_of (with_cabin c.leave.new.self c.args.run.now) c.args.outcome.now) c.in_ok-settle.ensures.settled.kept session-then
        (λ fine. closes-more rung.closing (session_of c.settle.new.run.keeper.cabin.cards k.which) c.args.withdrawal.at (is_err k.result) c.settle.new.run (g.M.Medium.state c.settle.new.unit) k.unit k.unit_whole closes.behind.unit going.span going.stands rung.rings fine)
        k.new k.breaks n_.0 n_.3 (subst (λ (m : Moment). IsClosed k.which c.args.withdrawal.slot m c.settle.new.run k.new c.settle.new.outcome.breaks k.breaks n_.0) moment n_.1) closes.goes.calm n_.2)

    evented : EventedNow o done s w.within.b.run Acting (log_of c.args.outcome.now) first_ → EventsGoOn (is_err k.result) o done s w.within.b.run (In c.args.withdrawal.at.begun) Acting (log_of told) last
    evented before =
        let going = going-with g c k.which k.is in
        let second : c.args.withdrawal.at.second ≡ s.number = c.requires.at ∙ sym now.number in
        let r = c.in_ok-settle.ensures.keeps in
        let v = c.in_ok-settle.ensures.keeps in
        let n_ = closes.shows.events in
        let fell = closes.closed in
        let settles =
        left-there (λ m run. EventsSettling v.decided m false run c.settle.new.run c.args.outcome.now c.settle.new.outcome first_ between) c.args.withdrawal.slot c.args.withdrawal.at (acting_at s.number (suc (length front))) c.args.run.now c.leave.new.self c.leave.ensures.kept moment
        (subst (λ (m : Devices). EventsSettling v.decided c.args.withdrawal.at false (with_cabin c.leave.new.self c.args.run.now) c.settle.new.run c.args.outcome.now c.settle.new.outcome first_ m) (k.beside_it (g.M.Medium.state c.settle.new.unit)) v.evented) in
        let told_then = settled-evented o done s front rest c.args.withdrawal.slot are speed now.speed_is k.which c.args.run.now c.settle.new.run c.args.outcome.now c.settle.new.outcome first_ w seat allowed (ungiven_of c.requires.acting.going.span) c.requires.acting.going.cabin minutes v.decided (v.given w.within.sp w.within.minutes) false between settles before time-then in
        let same = same-closing k.which c.args.withdrawal.slot c.args.withdrawal.at c.settle.new.run k.new c.settle.new.outcome.breaks k.breaks n_.closing fell.0 n_.closed fell.1 in
        let notes =
        noted-any (closed_events n_.closing c.args.withdrawal.at.second k.new) (is_err k.result) (devices (g.M.Medium.state c.settle.new.unit) (k.state k.before) (k.state k.before)) (devices k.unit (k.state k.after) (k.state k.after)) between last (unit-is k.which (g.M.Medium.state c.settle.new.unit) (k.state k.before) k.beside) (unit-is k.which k.unit (k.state k.after) k.beside) n_.notes in
        subst (λ (q : ℕ). EventsGoOn (is_err k.result) o done s w.within.b.run (In q) Acting (log_of told) last) (sym n)
        (closing-evented o done s front rest c.args.withdrawal.slot are speed now.speed_is k.which c.args.run.now c.settle.new.run c.args.outcome.now c.settle.new.outcome first_ w seat allowed (ungiven_of c.requires.acting.going.span) c.requires.acting.going.cabin minutes r.decided (r.given w.within.sp w.within.minutes)
        k.state (g.M.Medium.state c.settle.new.unit) k.unit k.beside k.before k.after (g.met.M.Medium.coherent c.settle.new.unit) k.whole k.size closes.shows.left bare closes.writes.journal (is_err k.result) closes.behind.cause going.span going.stands going.next
        records time-then c.args.withdrawal.at c.in_ok-settle.ensures.settled.decided (told_of (with_cabin c.leave.new.self c.args.run.now) c.args.outcome.now) c.in_ok-settle.ensures.settled.kept session-then
        small (ap (λ (x : Outcome). x.finds) c.in_ok-settle.ensures.settled.outcome) (ungiven_of going.span) going.cabin told_then
        k.new k.breaks n_.closing (subst (λ (m : Moment). IsClosed k.which c.args.withdrawal.slot m c.settle.new.run k.new c.settle.new.outcome.breaks k.breaks n_.closing) moment n_.closed) closes.goes.calm
        (subst (λ (x : ℕ). HasBroken (k.state k.before) (k.state k.after) x) (sym same) fell.2) (subst (λ (u : ℕ). NotesEvents (closed_events n_.closing u k.new) (is_err k.result) between last) second notes))

    left : HaveLeftMore o first_ last
    left =
        more-left o first_ last (w.within.powered.lit.unit.unit_holds [] []).later w.within.there.clocks
        (keeps-by k.which first_ (g.M.Medium.state c.settle.new.unit) k.unit (k.state k.before) (k.state k.after) k.beside (subst (λ (m : Devices). AreLeftMore first_ m) (k.beside_it (g.M.Medium.state c.settle.new.unit)) (settled-left c.settle.ensures.goes.keeping)) (subst (λ (m : Devices). AreLater first_ m) (k.beside_it (g.M.Medium.state c.settle.new.unit)) (settled-later c.settle.ensures.goes.keeping c.settle.ensures.goes.speeds)) closes.writes.journal.keeps
        (closing-left k.state k.before k.after (session_of c.settle.new.run.keeper.cabin.cards k.which) closes.shows.left bare))

    places : (spans : List SpanFrom) (t : Rattle.log_model.specs.Course.ToldSecond) → RingsWithin o done s w.within.b.run.log front c.args.run.now (log_of c.args.outcome.now) spans t first_ → CardsGo o (with_second spans c.args.run.now.keeper.odometer t) (EndsIf (is_some (session_of c.settle.new.run.keeper.cabin.cards k.which)) k.which) first_ last
    places spans t rings =
        let r = c.in_ok-settle.ensures.keeps in
        let v = c.in_ok-settle.ensures.keeps in
        let settles =
        left-there (λ m run. PlacesSettling v.decided m run c.settle.new.run c.args.outcome.now first_ between) c.args.withdrawal.slot c.args.withdrawal.at (acting_at s.number (suc (length front))) c.args.run.now c.leave.new.self c.leave.ensures.kept moment
        (subst (λ (m : Devices). PlacesSettling v.decided c.args.withdrawal.at (with_cabin c.leave.new.self c.args.run.now) c.settle.new.run c.args.outcome.now first_ m) (k.beside_it (g.M.Medium.state c.settle.new.unit)) v.places) in
        ends-then o (with_second spans c.args.run.now.keeper.odometer t) (is_some (session_of c.settle.new.run.keeper.cabin.cards k.which)) k.which first_ between last (settled-places o done s front rest c.args.withdrawal.slot are speed now.speed_is k.which c.args.run.now c.settle.new.run c.args.outcome.now c.settle.new.outcome first_ w seat allowed (ungiven_of c.requires.acting.going.span) c.requires.acting.going.cabin minutes v.decided (v.given w.within.sp w.within.minutes) between settles time-then spans t (spans-here o done s w.within.b.run.log front c.args.run.now (log_of c.args.outcome.now) spans t first_ rings))
        (closed-places o done s front rest c.args.withdrawal.slot are speed now.speed_is k.which c.args.run.now c.settle.new.run c.args.outcome.now c.settle.new.outcome first_ w seat allowed (ungiven_of c.requires.acting.going.span) c.requires.acting.going.cabin minutes r.decided (r.given w.within.sp w.within.minutes) k.state (g.M.Medium.state c.settle.new.unit) k.unit k.beside k.before k.after k.whole k.size closes.shows.left bare records time-then (with_second spans c.args.run.now.keeper.odometer t))

    shows : StillShow o first_ last
    shows =
        let r = c.in_ok-settle.ensures.keeps in
        let v = c.in_ok-settle.ensures.keeps in
        let settles =
        left-there (λ m run. CardsSettling v.decided m run c.settle.new.run c.args.outcome.now first_ between) c.args.withdrawal.slot c.args.withdrawal.at (acting_at s.number (suc (length front))) c.args.run.now c.leave.new.self c.leave.ensures.kept moment
        (subst (λ (m : Devices). CardsSettling v.decided c.args.withdrawal.at (with_cabin c.leave.new.self c.args.run.now) c.settle.new.run c.args.outcome.now first_ m) (k.beside_it (g.M.Medium.state c.settle.new.unit)) v.cards) in
        shows-then o first_ between last (settled-still o done s front rest c.args.withdrawal.slot are speed now.speed_is k.which c.args.run.now c.settle.new.run c.args.outcome.now c.settle.new.outcome first_ w seat allowed (ungiven_of c.requires.acting.going.span) c.requires.acting.going.cabin minutes v.decided (v.given w.within.sp w.within.minutes) between settles time-then)
        (closed-still o done s front rest c.args.withdrawal.slot are speed now.speed_is k.which c.args.run.now c.settle.new.run c.args.outcome.now c.settle.new.outcome first_ w seat allowed (ungiven_of c.requires.acting.going.span) c.requires.acting.going.cabin minutes r.decided (r.given w.within.sp w.within.minutes) k.state (g.M.Medium.state c.settle.new.unit) k.unit k.beside k.before k.after k.whole k.size closes.shows.left bare records time-then)

    -- what stood on the cards stands
    stands_ : LetStand o first_ last
    stands_ =
        let r = c.in_ok-settle.ensures.keeps in
        let settles =
        left-there (λ m run. StandsSettling r.decided m run c.settle.new.run c.args.outcome.now first_ between) c.args.withdrawal.slot c.args.withdrawal.at (acting_at s.number (suc (length front))) c.args.run.now c.leave.new.self c.leave.ensures.kept moment
        (subst (λ (m : Devices). StandsSettling r.decided c.args.withdrawal.at (with_cabin c.leave.new.self c.args.run.now) c.settle.new.run c.args.outcome.now first_ m) (k.beside_it (g.M.Medium.state c.settle.new.unit)) r.stands) in
        let kept_all = settled-stands o done s front rest c.args.withdrawal.slot are speed now.speed_is k.which c.args.run.now c.settle.new.run c.args.outcome.now c.settle.new.outcome first_ w seat allowed (ungiven_of c.requires.acting.going.span) c.requires.acting.going.cabin minutes r.decided (r.given w.within.sp w.within.minutes) between settles time-then in
        let closed_all = closed-places o done s front rest c.args.withdrawal.slot are speed now.speed_is k.which c.args.run.now c.settle.new.run c.args.outcome.now c.settle.new.outcome first_ w seat allowed (ungiven_of c.requires.acting.going.span) c.requires.acting.going.cabin minutes r.decided (r.given w.within.sp w.within.minutes) k.state (g.M.Medium.state c.settle.new.unit) k.unit k.beside k.before k.after k.whole k.size closes.shows.left bare records time-then [] in
        let-left o first_ between last left kept_all.made (vehicles-make o [] (EndsIf (is_some (session_of c.settle.new.run.keeper.cabin.cards k.which)) k.which) between last closed_all.vehicles)

    cards_ : CardsIn o done s w.within.b.run.log front (log_of c.args.outcome.now) first_ → CardsGoOn (is_err k.result) o done s w.within.b.run.log (front ++ Withdraw c.args.withdrawal.slot ∷ []) (log_of told) last
    cards_ before =
        let n_ = closes.closed in
        let t : TellsLines (acting_at s.number (suc (length front))) c.args.outcome.now told = subst (λ (m : Moment). TellsLines m c.args.outcome.now told) moment
        (closed-lines c.args.withdrawal.at c.args.outcome.now c.settle.new.outcome k.breaks n_.0 c.args.withdrawal.slot (settled-lines c.args.withdrawal.at false (with_cabin c.leave.new.self c.args.run.now) c.settle.new.run c.args.outcome.now c.settle.new.outcome c.in_ok-settle.ensures.settled) n_.1.told) in
        quiet-goes o done s front rest (Withdraw c.args.withdrawal.slot) are c.args.run.now c.args.outcome.now first_ last w tt t.lines (log_of told) t.are t.tears
        (stood-later o done s (In (length front)) [] None [] (values_of c.args.run.now c.args.outcome.now) first_ w.within last later) left shows before (is_err k.result)

    ringed : (spans : List SpanFrom) (t : Rattle.log_model.specs.Course.ToldSecond) → RingsWithin o done s w.within.b.run.log front c.args.run.now (log_of c.args.outcome.now) spans t first_ → RingsGoOn (is_err k.result) o done s w.within.b (front ++ Withdraw c.args.withdrawal.slot ∷ []) k.new (log_of told) spans t last
    ringed spans t rings =
        let lit = c.requires.acting.going in
        let r = c.in_ok-settle.ensures.keeps in
        let n_ = closes.shows.rings (c.settle.ensures.goes.keeping.unit_tells ∙ w.within.there.unit) in
        let entries = entry-of c.args.run.now.noted (session_of c.args.run.now.keeper.cabin.cards k.which) (lit.entries k.which) in
        let closed = subst (λ (m : Moment). IsClosed k.which c.args.withdrawal.slot m c.settle.new.run k.new c.settle.new.outcome.breaks k.breaks n_.closing) moment n_.closed in
        let writes : ClosesRings n_.closing (session_of c.settle.new.run.keeper.cabin.cards k.which) (acting_at s.number (suc (length front))) (is_err k.result) c.settle.new.run (g.M.Medium.state c.args.unit.now) last.unit =
        subst (λ (m : Moment). ClosesRings n_.closing (session_of c.settle.new.run.keeper.cabin.cards k.which) m (is_err k.result) c.settle.new.run (g.M.Medium.state c.args.unit.now) last.unit) moment
        (subst (λ (x : State). ClosesRings n_.closing (session_of c.settle.new.run.keeper.cabin.cards k.which) c.args.withdrawal.at (is_err k.result) c.settle.new.run (g.M.Medium.state c.args.unit.now) x) (unit-is k.which k.unit (k.state k.after) k.beside)
        (closes-behind n_.closing (session_of c.settle.new.run.keeper.cabin.cards k.which) c.args.withdrawal.at (is_err k.result) c.settle.new.run (g.M.Medium.state c.args.unit.now) (g.M.Medium.state c.settle.new.unit) k.unit leaves n_.rings)) in
        let from_is : w.within.from ≡ ungiven_of lit.span = let to = w.within.until in let same = same-ungiven c.args.run.now.minutes w.within.sp lit.span w.within.minutes lit.stands in omega (arith, to, same) in
        let later_ = (settled-decides None (c.args.run.now.next / 60) c.args.run.now lit kept.decided c.requires.acting.small (kept.given lit.span lit.stands)).from in
        closing-ringed o done s front rest c.args.withdrawal.slot are speed now.speed_is k.which c.args.run.now c.settle.new.run c.args.outcome.now c.settle.new.outcome first_ last w seat allowed false kept left spans t rings (ungiven_of c.requires.acting.going.span) c.requires.acting.going.cabin small entries
        (places spans t rings) k.new k.breaks n_.closing closed minutes
        (λ had has. untorn-then o done s front rest c.args.withdrawal.slot are speed now.speed_is k.which c.args.run.now c.settle.new.run c.args.outcome.now c.settle.new.outcome first_ w seat allowed (ungiven_of c.requires.acting.going.span) c.requires.acting.going.cabin minutes r.decided (r.given w.within.sp w.within.minutes) between records time-then had has)
        (λ had none. gone-told o done s front rest c.args.withdrawal.slot are speed now.speed_is k.which c.args.run.now c.settle.new.run c.args.outcome.now c.settle.new.outcome first_ last w seat allowed false kept left spans t rings (ungiven_of c.requires.acting.going.span) c.requires.acting.going.cabin small entries kept.kept w.within.from
        (sat-there o done s front rest c.args.withdrawal.slot are speed now.speed_is k.which c.args.run.now c.settle.new.run c.args.outcome.now c.settle.new.outcome first_ w seat allowed (ungiven_of c.requires.acting.going.span) c.requires.acting.going.cabin minutes r.decided (r.given w.within.sp w.within.minutes) had)
        (subst (λ (low : ℕ). All (λ (m : Minute). low ≤ m.minute) kept.decided) (sym from_is) later_) had none)
        (λ is. closed-shuts o done s front rest c.args.withdrawal.slot are speed now.speed_is k.which c.args.run.now c.settle.new.run c.args.outcome.now c.settle.new.outcome first_ w seat allowed (ungiven_of c.requires.acting.going.span) c.requires.acting.going.cabin minutes r.decided (r.given w.within.sp w.within.minutes) k.state (g.M.Medium.state c.settle.new.unit) k.unit k.beside k.before k.after k.whole k.size closes.shows.shut.act
        (subst (λ (j : Closing). ClosesCard j (session_of c.settle.new.run.keeper.cabin.cards k.which) closes.shows.shut.act (k.state k.before) (k.state k.after))
        (closes-alike k.which c.args.withdrawal.slot c.args.withdrawal.at c.settle.new.run k.new c.settle.new.outcome.breaks k.breaks n_.closing closes.shows.shut.closing n_.closed closes.shows.shut.closed is) closes.shows.shut.closes)
        records time-then (log_of (record c.settle.new.outcome { breaks = k.breaks })))
        (is_err k.result) writes

module _ (g : Over) (c : After-close g) where
  abbrev kept-a : In_ok-settle g
  kept-a = (goal.at.returns-in-A-clause-behind g c).In_ok-settle

  abbrev side-a : OneCard kept-a.in-Some.card (g.C.Chip.state c.settle.new.card_a) (g.D.Chip.state c.settle.new.card_b)
  side-a =
      on_a g.C.Chip.state g.C.Chip.card g.met.C.Chip.coherent c.settle.new.card_a c.close.new.card c.settle.ensures.stands.held.held.card_a.size (g.D.Chip.state c.settle.new.card_b) (g.M.Medium.state c.close.new.unit) (g.met.M.Medium.coherent c.close.new.unit) c.close.new.run c.close.new.breaks c.close.result
      kept-a.in-Some.card c.in-A.is

module _ (g : Over) (c : After-close-in-B g) where
  abbrev kept-b : In_ok-settle g
  kept-b = (goal.at.returns-in-B-clause-behind g c).In_ok-settle

  abbrev side-b : OneCard kept-b.in-Some.card (g.C.Chip.state c.settle.new.card_a) (g.D.Chip.state c.settle.new.card_b)
  side-b =
      on_b g.D.Chip.state g.D.Chip.card g.met.D.Chip.coherent c.settle.new.card_b c.close-in-B.new.card c.settle.ensures.stands.held.held.card_b.size (g.C.Chip.state c.settle.new.card_a) (g.M.Medium.state c.close-in-B.new.unit) (g.met.M.Medium.coherent c.close-in-B.new.unit) c.close-in-B.new.run c.close-in-B.new.breaks c.close-in-B.result
      kept-b.in-Some.card c.in-B.is

-- ---- there is none in the slot

module _ (g : Over) (c : In_default g) where
  none-in : card_in (seat_in c.args.run.now.keeper.cabin.slots.seats c.args.withdrawal.slot) ≡ None
  none-in = sym c.card.ensures ∙ none-there c.card.result c.in_default.not-Some

pub returns-in_default-clause-withdrawn : goal.returns-in_default-clause-withdrawn
returns-in_default-clause-withdrawn g c = record {
  card = subst (λ (q : Option Card). IsWithdrawn q c.args.withdrawal.slot c.args.withdrawal.at false c.args.run.now c.args.run.now c.args.outcome.now c.args.outcome.now) (sym (none-in g c)) (refl, refl);
  run = refl;
  outcome = refl;
  takes = record { rooms = (refl, refl, refl, refl); marks = omega arith; breaks = omega arith; finds = omega arith; refused = omega arith };
}

pub returns-in_default-clause-empty : goal.returns-in_default-clause-empty
returns-in_default-clause-empty g c = λ none. (refl, refl, refl)

pub returns-in_default-clause-leaves : goal.returns-in_default-clause-leaves
returns-in_default-clause-leaves g c = record {
  booked = λ card there. absurd (let wrong : None ≡ Some card = sym (none-in g c) ∙ there in cc);
  events =
      let run = c.args.run.now in
      let d = devices (g.M.Medium.state c.args.unit.now) (g.C.Chip.state c.args.card_a.now) (g.D.Chip.state c.args.card_b.now) in
      subst (λ (q : Option Card). NotesWithdrawing q c.args.withdrawal.slot c.args.withdrawal.at false run run c.args.outcome.now c.args.outcome.now d d) (sym (none-in g c))
      (refl, refl, refl, same-noted (g.M.Medium.state c.args.unit.now) (g.C.Chip.state c.args.card_a.now) (g.D.Chip.state c.args.card_b.now));
  rings =
      λ tells.
      let run = c.args.run.now in
      let U = g.M.Medium.state c.args.unit.now in
      subst (λ (o : Option Card). WithdrawsSo o c.args.withdrawal.slot c.args.withdrawal.at false run run c.args.outcome.now c.args.outcome.now U U) (sym (none-in g c)) (rings-left U);
  shut = λ card there. absurd (let wrong : None ≡ Some card = sym (none-in g c) ∙ there in cc);
}

pub returns-in_default-clause-promises : goal.returns-in_default-clause-promises
returns-in_default-clause-promises g c = record {
  recorded =
      λ late speed o done s now front rest are n allowed w time.
      absurd (withdraws-one c.args.run.now.keeper.cabin.slots.seats c.args.withdrawal.slot speed allowed (none-in g c));
  evented =
      λ late speed o done s now front rest are n allowed w events time.
      absurd (withdraws-one c.args.run.now.keeper.cabin.slots.seats c.args.withdrawal.slot speed allowed (none-in g c));
  ringed =
      λ late speed o done s now front rest are n allowed w spans t rings time.
      absurd (withdraws-one c.args.run.now.keeper.cabin.slots.seats c.args.withdrawal.slot speed allowed (none-in g c));
  cards =
      λ late speed o done s now front rest are n allowed vehicle w cards time.
      absurd (withdraws-one c.args.run.now.keeper.cabin.slots.seats c.args.withdrawal.slot speed allowed (none-in g c));
  stands = λ late speed o done s now front rest are n allowed w time. absurd (withdraws-one c.args.run.now.keeper.cabin.slots.seats c.args.withdrawal.slot speed allowed (none-in g c));
}

pub returns-in_default-clause-behind : goal.returns-in_default-clause-behind
returns-in_default-clause-behind g c = record {
  held =
      record {
        held = c.requires.acting.held;
        cause = (no_reads (g.M.Medium.state c.args.unit.now) c.requires.acting.going.ready.unit_ready.works).cause;
      };
  going = first_of (search rules, grind (arith, common_steps));
}

pub returns-in_default-clause-goes : goal.returns-in_default-clause-goes
returns-in_default-clause-goes g c = record {
  later = later-same (devices (g.M.Medium.state c.args.unit.now) (g.C.Chip.state c.args.card_a.now) (g.D.Chip.state c.args.card_b.now));
  calm = calm-same (devices (g.M.Medium.state c.args.unit.now) (g.C.Chip.state c.args.card_a.now) (g.D.Chip.state c.args.card_b.now));
  more = omega arith;
  most = wrote-none 82 302 (devices (g.M.Medium.state c.args.unit.now) (g.C.Chip.state c.args.card_a.now) (g.D.Chip.state c.args.card_b.now));
}

-- ---- the keeping fails

module _ (g : Over) (c : After-from_residual g) where
  abbrev start : Devices
  start = devices (g.M.Medium.state c.args.unit.now) (g.C.Chip.state c.args.card_a.now) (g.D.Chip.state c.args.card_b.now)

  abbrev end : Devices
  end = devices (g.M.Medium.state c.settle.new.unit) (g.C.Chip.state c.settle.new.card_a) (g.D.Chip.state c.settle.new.card_b)

  seat-left : card_in (seat_in c.args.run.now.keeper.cabin.slots.seats c.args.withdrawal.slot) ≡ Some c.in-Some.card
  seat-left = cc

  failed : true ≡ is_err c.from_residual.result
  failed = search rules

  cut-first : IsSettled c.args.withdrawal.at true (left_run c.args.withdrawal.slot c.args.withdrawal.at.second c.args.run.now) c.settle.new.run c.args.outcome.now c.settle.new.outcome
  cut-first = left-there (λ m run. IsSettled m true run c.settle.new.run c.args.outcome.now c.settle.new.outcome) c.args.withdrawal.slot c.args.withdrawal.at c.args.withdrawal.at c.args.run.now c.leave.new.self c.leave.ensures.kept refl c.in_err-settle.ensures.settled

  -- in a second of a trace, behind the actions before it
  module _ (late : c.args.withdrawal.at.late ≡ false) (speed : ℕ) (o : Origin) (done : List TraceSecond) (s : TraceSecond) (now : IsNow s speed c.args.run.now) (front rest : List Action) (are : s.actions ≡ front ++ Withdraw c.args.withdrawal.slot ∷ rest) (n : c.args.withdrawal.at.begun ≡ suc (length front))
      (allowed : refusal (logged c.args.run.now.keeper.cabin.slots.seats) speed (Withdraw c.args.withdrawal.slot) ≡ None) (w : RunWithin o done s (In (length front)) [] [] c.args.run.now c.args.outcome.now start) (time : HaveTime end) where
    at-moment : c.args.withdrawal.at ≡ acting_at s.number (suc (length front))
    at-moment = moment-is c.args.withdrawal.at s.number (suc (length front)) (c.requires.at ∙ sym now.number) n late

    cut-recorded : GoesOnOrFails (is_err c.from_residual.result) o done s (In c.args.withdrawal.at.begun) [] c.settle.new.run c.settle.new.outcome end w.within.b
    cut-recorded =
        let r = c.in_err-settle.ensures.keeps in
        subst (λ (q : Bool). GoesOnOrFails q o done s (In c.args.withdrawal.at.begun) [] c.settle.new.run c.settle.new.outcome end w.within.b) failed
        (subst (λ (q : ℕ). RunFails o done s (In q) c.settle.new.run c.settle.new.outcome end) (sym n)
        (settling-cut o done s front rest c.args.withdrawal.slot are speed now.speed_is c.in-Some.card c.args.run.now c.settle.new.run c.args.outcome.now c.settle.new.outcome start w seat-left allowed (ungiven_of c.requires.acting.going.span) c.requires.acting.going.cabin (c.in_err-settle.ensures.settled.minutes w.within.sp w.within.minutes) r.decided (r.given w.within.sp w.within.minutes) end
        (left-there (λ m run. RecordsSettling r.decided m true run c.settle.new.run c.args.outcome.now c.settle.new.outcome start end) c.args.withdrawal.slot c.args.withdrawal.at (acting_at s.number (suc (length front))) c.args.run.now c.leave.new.self c.leave.ensures.kept at-moment r.recorded) time c.settle.ensures.goes.keeping.memory))

    cut-evented : EventedNow o done s w.within.b.run Acting (log_of c.args.outcome.now) start → EventsGoOn (is_err c.from_residual.result) o done s w.within.b.run (In c.args.withdrawal.at.begun) Acting (log_of c.settle.new.outcome) end
    cut-evented events_ =
        let v = c.in_err-settle.ensures.keeps in
        subst (λ (q : Bool). EventsGoOn q o done s w.within.b.run (In c.args.withdrawal.at.begun) Acting (log_of c.settle.new.outcome) end) failed
        (subst (λ (q : ℕ). EventsGoOn true o done s w.within.b.run (In q) Acting (log_of c.settle.new.outcome) end) (sym n)
        (settled-evented o done s front rest c.args.withdrawal.slot are speed now.speed_is c.in-Some.card c.args.run.now c.settle.new.run c.args.outcome.now c.settle.new.outcome start w seat-left allowed (ungiven_of c.requires.acting.going.span) c.requires.acting.going.cabin (c.in_err-settle.ensures.settled.minutes w.within.sp w.within.minutes) v.decided (v.given w.within.sp w.within.minutes) true end
        (left-there (λ m run. EventsSettling v.decided m true run c.settle.new.run c.args.outcome.now c.settle.new.outcome start end) c.args.withdrawal.slot c.args.withdrawal.at (acting_at s.number (suc (length front))) c.args.run.now c.leave.new.self c.leave.ensures.kept at-moment v.evented) events_ time))

    cut-left : HaveLeftMore o start end
    cut-left = more-left o start end (w.within.powered.lit.unit.unit_holds [] []).later w.within.there.clocks (settled-left c.settle.ensures.goes.keeping)

    cut-ringed : (spans : List SpanFrom) (t : Rattle.log_model.specs.Course.ToldSecond) → RingsWithin o done s w.within.b.run.log front c.args.run.now (log_of c.args.outcome.now) spans t start
        → RingsGoOn (is_err c.from_residual.result) o done s w.within.b (front ++ Withdraw c.args.withdrawal.slot ∷ []) c.settle.new.run (log_of c.settle.new.outcome) spans t end
    cut-ringed spans t rings =
        let card : Card = c.in-Some.card in
        let lit = c.requires.acting.going in
        let low : s.number < 2 ^ 32 = let most = c.requires.acting.small in let same = now.number in omega (arith, most, same) in
        let v = c.in_err-settle.ensures.keeps in
        let stay = settled-places o done s front rest c.args.withdrawal.slot are speed now.speed_is c.in-Some.card c.args.run.now c.settle.new.run c.args.outcome.now c.settle.new.outcome start w seat-left allowed (ungiven_of c.requires.acting.going.span) c.requires.acting.going.cabin (c.in_err-settle.ensures.settled.minutes w.within.sp w.within.minutes) v.decided (v.given w.within.sp w.within.minutes) end (left-there (λ m run. PlacesSettling v.decided m run c.settle.new.run c.args.outcome.now start end) c.args.withdrawal.slot c.args.withdrawal.at (acting_at s.number (suc (length front))) c.args.run.now c.leave.new.self c.leave.ensures.kept at-moment v.places) time spans t (spans-here o done s w.within.b.run.log front c.args.run.now (log_of c.args.outcome.now) spans t start rings) in
        subst (λ (q : Bool). RingsGoOn q o done s w.within.b (front ++ Withdraw c.args.withdrawal.slot ∷ []) c.settle.new.run (log_of c.settle.new.outcome) spans t end) failed
        (settling-ringed o done s front rest c.args.withdrawal.slot are speed now.speed_is card c.args.run.now c.settle.new.run c.args.outcome.now c.settle.new.outcome start end w seat-left allowed true
        (left-there (λ m run. IsSettled m true run c.settle.new.run c.args.outcome.now c.settle.new.outcome) c.args.withdrawal.slot c.args.withdrawal.at (acting_at s.number (suc (length front))) c.args.run.now c.leave.new.self c.leave.ensures.kept at-moment c.in_err-settle.ensures.settled)
        cut-left spans t rings (ungiven_of lit.span) lit.cabin low (entry-of c.args.run.now.noted (session_of c.args.run.now.keeper.cabin.cards card) (lit.entries card)) stay
        (settling-leaves c.args.withdrawal.at true (with_cabin c.leave.new.self c.args.run.now) c.settle.new.run c.args.outcome.now c.settle.new.outcome (g.M.Medium.state c.args.unit.now) (g.M.Medium.state c.settle.new.unit) (settled-noted c.in_err-settle.ensures.keeps)))

    cut-stands : LetStand o start end
    cut-stands =
        let v = c.in_err-settle.ensures.keeps in
        settled-stands o done s front rest c.args.withdrawal.slot are speed now.speed_is c.in-Some.card c.args.run.now c.settle.new.run c.args.outcome.now c.settle.new.outcome start w seat-left allowed (ungiven_of c.requires.acting.going.span) c.requires.acting.going.cabin (c.in_err-settle.ensures.settled.minutes w.within.sp w.within.minutes) v.decided (v.given w.within.sp w.within.minutes) end (left-there (λ m run. StandsSettling v.decided m run c.settle.new.run c.args.outcome.now start end) c.args.withdrawal.slot c.args.withdrawal.at (acting_at s.number (suc (length front))) c.args.run.now c.leave.new.self c.leave.ensures.kept at-moment v.stands) time

    cut-cards : CardsIn o done s w.within.b.run.log front (log_of c.args.outcome.now) start → CardsGoOn (is_err c.from_residual.result) o done s w.within.b.run.log (front ++ Withdraw c.args.withdrawal.slot ∷ []) (log_of c.settle.new.outcome) end
    cut-cards cards =
        let v = c.in_err-settle.ensures.keeps in
        let still = settled-still o done s front rest c.args.withdrawal.slot are speed now.speed_is c.in-Some.card c.args.run.now c.settle.new.run c.args.outcome.now c.settle.new.outcome start w seat-left allowed (ungiven_of c.requires.acting.going.span) c.requires.acting.going.cabin (c.in_err-settle.ensures.settled.minutes w.within.sp w.within.minutes) v.decided (v.given w.within.sp w.within.minutes) end (left-there (λ m run. CardsSettling v.decided m run c.settle.new.run c.args.outcome.now start end) c.args.withdrawal.slot c.args.withdrawal.at (acting_at s.number (suc (length front))) c.args.run.now c.leave.new.self c.leave.ensures.kept at-moment v.cards) time in
        let t : TellsLines (acting_at s.number (suc (length front))) c.args.outcome.now c.settle.new.outcome = subst (λ (m : Moment). TellsLines m c.args.outcome.now c.settle.new.outcome) at-moment
        (settled-lines c.args.withdrawal.at true (with_cabin c.leave.new.self c.args.run.now) c.settle.new.run c.args.outcome.now c.settle.new.outcome c.in_err-settle.ensures.settled) in
        quiet-goes o done s front rest (Withdraw c.args.withdrawal.slot) are c.args.run.now c.args.outcome.now start end w tt t.lines (log_of c.settle.new.outcome) t.are t.tears
        (stood-later o done s (In (length front)) [] None [] (values_of c.args.run.now c.args.outcome.now) start w.within end (settled-later c.settle.ensures.goes.keeping c.settle.ensures.goes.speeds)) cut-left still cards (is_err c.from_residual.result)

pub returns-in_err-settle-clause-withdrawn : goal.returns-in_err-settle-clause-withdrawn
returns-in_err-settle-clause-withdrawn g c = record {
  card =
      subst (λ (o : Option Card). IsWithdrawn o c.args.withdrawal.slot c.args.withdrawal.at (is_err c.from_residual.result) c.args.run.now c.settle.new.run c.args.outcome.now c.settle.new.outcome) (sym (seat-left g c))
      (inl (sym (failed g c), cut-first g c));
  run = c.settle.ensures.settled.only;
  outcome = c.settle.ensures.settled.outcome;
  takes =
      let run = c.args.run.now in
      let t = c.settle.ensures.takes in
      let left : falls_of c.leave.new.self ≡ falls_of (with_slot_left c.args.withdrawal.slot c.args.withdrawal.at.second run.keeper.cabin) = ap falls_of c.leave.ensures.kept in
      let less = left-falls c.args.withdrawal.slot c.args.withdrawal.at.second run.keeper.cabin in
      let b = t.breaks in
      record { rooms = t.rooms; marks = t.marks; breaks = omega (arith, b, left, less); finds = t.finds; refused = t.refused };
}

pub returns-in_err-settle-clause-empty : goal.returns-in_err-settle-clause-empty
returns-in_err-settle-clause-empty g c = λ none. absurd (let wrong : None ≡ Some c.in-Some.card = sym none ∙ seat-left g c in cc)

pub returns-in_err-settle-clause-leaves : goal.returns-in_err-settle-clause-leaves
returns-in_err-settle-clause-leaves g c = record {
  booked =
      λ card there.
      let run = c.args.run.now in
      let D = start g c in
      let E = end g c in
      let b = c.in_err-settle.ensures.keeps in
      subst (λ (q : Bool). Booked c.args.withdrawal.slot c.args.withdrawal.at card q run c.settle.new.run c.args.outcome.now c.settle.new.outcome D E (with_slot_left c.args.withdrawal.slot c.args.withdrawal.at.second run.keeper.cabin)) (failed g c)
      (subst (λ (left : Cabin). Booked c.args.withdrawal.slot c.args.withdrawal.at card true run c.settle.new.run c.args.outcome.now c.settle.new.outcome D E left) c.leave.ensures.kept (
        b.decided,
        b.reach,
        None,
        told_of c.settle.new.run c.settle.new.outcome,
        b.given,
        b.is,
        withdrawn-cut card b.decided c.args.withdrawal.at (told_of (with_cabin c.leave.new.self run) c.args.outcome.now) (told_of c.settle.new.run c.settle.new.outcome) D E b.reach b.is b.books,
      ));
  events =
      let settling = left-there (λ m run. NotesSettling m true run c.settle.new.run c.args.outcome.now c.settle.new.outcome (g.M.Medium.state c.args.unit.now) (g.M.Medium.state c.settle.new.unit)) c.args.withdrawal.slot c.args.withdrawal.at c.args.withdrawal.at c.args.run.now c.leave.new.self c.leave.ensures.kept refl (settled-noted c.in_err-settle.ensures.keeps) in
      let these = settles-these c.args.withdrawal.at true (left_run c.args.withdrawal.slot c.args.withdrawal.at.second c.args.run.now) c.settle.new.run c.args.outcome.now c.settle.new.outcome (g.M.Medium.state c.args.unit.now) (g.M.Medium.state c.settle.new.unit) (g.C.Chip.state c.args.card_a.now) (g.D.Chip.state c.args.card_b.now) (g.C.Chip.state c.settle.new.card_a) (g.D.Chip.state c.settle.new.card_b) (g.met.M.Medium.coherent c.args.unit.now) c.requires.acting.held.is_unit settling in
      subst (λ (b : Bool). NotesWithdrawing (card_in (seat_in c.args.run.now.keeper.cabin.slots.seats c.args.withdrawal.slot)) c.args.withdrawal.slot c.args.withdrawal.at b c.args.run.now c.settle.new.run c.args.outcome.now c.settle.new.outcome (start g c) (end g c)) (failed g c)
      (withdrawal-cut (card_in (seat_in c.args.run.now.keeper.cabin.slots.seats c.args.withdrawal.slot)) c.in-Some.card (seat-left g c) c.args.withdrawal.slot c.args.withdrawal.at c.args.run.now c.settle.new.run c.args.outcome.now c.settle.new.outcome (start g c) (end g c) these.0 these.1 these.2);
  rings =
      λ tells.
      subst (λ (o : Option Card). WithdrawsSo o c.args.withdrawal.slot c.args.withdrawal.at (is_err c.from_residual.result) c.args.run.now c.settle.new.run c.args.outcome.now c.settle.new.outcome (g.M.Medium.state c.args.unit.now) (g.M.Medium.state c.settle.new.unit)) (sym (seat-left g c))
      (inl (sym (failed g c), cut-first g c, settling-leaves c.args.withdrawal.at true (with_cabin c.leave.new.self c.args.run.now) c.settle.new.run c.args.outcome.now c.settle.new.outcome (g.M.Medium.state c.args.unit.now) (g.M.Medium.state c.settle.new.unit) (settled-noted c.in_err-settle.ensures.keeps)));
  shut = λ card there. inl (sym (failed g c), cut-first g c);
}

pub returns-in_err-settle-clause-promises : goal.returns-in_err-settle-clause-promises
returns-in_err-settle-clause-promises g c = record {
  recorded = λ late speed o done s now front rest are n allowed w time. cut-recorded g c late speed o done s now front rest are n allowed w time;
  evented = λ late speed o done s now front rest are n allowed w events time. cut-evented g c late speed o done s now front rest are n allowed w time events;
  ringed = λ late speed o done s now front rest are n allowed w spans t rings time. cut-ringed g c late speed o done s now front rest are n allowed w time spans t rings;
  cards = λ late speed o done s now front rest are n allowed vehicle w cards time. cut-cards g c late speed o done s now front rest are n allowed w time cards;
  stands = λ late speed o done s now front rest are n allowed w time. cut-stands g c late speed o done s now front rest are n allowed w time;
}

pub returns-in_err-settle-clause-behind : goal.returns-in_err-settle-clause-behind
returns-in_err-settle-clause-behind g c = record {
  held =
      record {
        held = c.settle.ensures.stands.held.held;
        cause = subst (λ (b : Bool). HasCause (g.M.Medium.state c.args.unit.now) (g.M.Medium.state c.settle.new.unit) b) (failed g c) c.in_err-settle.ensures.stands.held.cause;
      };
  going = on_ok c.from_residual.result (λ well. absurd (let bad : true ≡ false = (failed g c) ∙ well in cc));
}

pub returns-in_err-settle-clause-goes : goal.returns-in_err-settle-clause-goes
returns-in_err-settle-clause-goes g c = record {
  later = settled-later c.settle.ensures.goes.keeping c.settle.ensures.goes.speeds;
  calm = c.settle.ensures.goes.keeping.all.calm;
  more = c.settle.ensures.goes.keeping.all.more;
  most = wrote-more 78 82 294 302 _ _ (omega arith) (omega arith) c.settle.ensures.goes.most;
}

-- ---- card a, and card b

pub returns-in-A-clause-behind : goal.returns-in-A-clause-behind
returns-in-A-clause-behind g c = record {
  held =
      record {
        held =
            let e = c.close.ensures.closes in
            let going = going-with g (kept-a g c) A c.in-A.is in
            held-closed A c.args.withdrawal.slot c.args.withdrawal.at c.settle.new.run c.close.new.run c.settle.new.outcome.breaks c.close.new.breaks e.closed.0 e.closed.1 (g.M.Medium.state c.settle.new.unit) (g.M.Medium.state c.close.new.unit) (g.C.Chip.state c.settle.new.card_a) (g.C.Chip.state c.close.new.card) (g.D.Chip.state c.settle.new.card_b)
            (g.C.Chip.card c.settle.new.card_a) (g.C.Chip.card c.close.new.card) (g.D.Chip.card c.settle.new.card_b)
            (at-then g (kept-a g c)) c.settle.ensures.stands.held.held e.behind.unit e.behind.card e.behind.size (ungiven_of going.span, None, e.stands (ungiven_of going.span) going.cabin);
        cause = cause_after c.in_ok-settle.ensures.stands.held.cause c.close.ensures.closes.behind.cause;
      };
  going =
      let e = c.close.ensures.closes in
      let going = going-with g (kept-a g c) A c.in-A.is in
      on_ok c.close.result (λ well.
      going-closed A c.args.withdrawal.slot c.args.withdrawal.at c.settle.new.run c.close.new.run c.settle.new.outcome.breaks c.close.new.breaks e.closed.0 e.closed.1 (g.M.Medium.state c.settle.new.unit) (g.M.Medium.state c.close.new.unit) (g.C.Chip.state c.settle.new.card_a) (g.C.Chip.state c.close.new.card) (g.D.Chip.state c.settle.new.card_b)
      (g.C.Chip.card c.settle.new.card_a) (g.C.Chip.card c.close.new.card) (g.D.Chip.card c.settle.new.card_b)
      going (ok_gives c.close.result e.behind.ready well) e.behind.card (λ card h. ok_gives c.close.result (e.behind.rows card h) well) (e.stands (ungiven_of going.span) going.cabin)
      (knows-left c.settle.new.run.watch.newest (g.M.Medium.state c.settle.new.unit) (g.M.Medium.state c.close.new.unit) (g.met.M.Medium.coherent c.settle.new.unit) (g.met.M.Medium.coherent c.close.new.unit) going.ready.unit_ready.works e.writes.speeds));
}

pub returns-in-A-clause-empty : goal.returns-in-A-clause-empty
returns-in-A-clause-empty g c = λ none. absurd (let wrong : None ≡ Some A = sym none ∙ seat-of g (kept-a g c) A c.in-A.is in cc)

pub returns-in-A-clause-withdrawn : goal.returns-in-A-clause-withdrawn
returns-in-A-clause-withdrawn g c = record {
  card = withdrawn g (kept-a g c) (side-a g c) c.close.ensures.closes c.close.ensures.bare;
  run = only g (kept-a g c) (side-a g c) c.close.ensures.closes c.close.ensures.bare;
  outcome = rest_ g (kept-a g c) (side-a g c) c.close.ensures.closes c.close.ensures.bare;
  takes = takes g (kept-a g c) (side-a g c) c.close.ensures.closes c.close.ensures.bare;
}

pub returns-in-A-clause-leaves : goal.returns-in-A-clause-leaves
returns-in-A-clause-leaves g c = record {
  booked = booked g (kept-a g c) (side-a g c) c.close.ensures.closes c.close.ensures.bare;
  events = events g (kept-a g c) (side-a g c) c.close.ensures.closes c.close.ensures.bare;
  rings = rings_ g (kept-a g c) (side-a g c) c.close.ensures.closes c.close.ensures.bare;
  shut = shut g (kept-a g c) (side-a g c) c.close.ensures.closes c.close.ensures.bare;
}

pub returns-in-A-clause-promises : goal.returns-in-A-clause-promises
returns-in-A-clause-promises g c = record {
  recorded = λ late speed o done s now front rest are n allowed w time. recorded g (kept-a g c) (side-a g c) c.close.ensures.closes c.close.ensures.bare late speed o done s now front rest are n allowed w time;
  evented = λ late speed o done s now front rest are n allowed w events time. evented g (kept-a g c) (side-a g c) c.close.ensures.closes c.close.ensures.bare late speed o done s now front rest are n allowed w time events;
  ringed = λ late speed o done s now front rest are n allowed w spans t rings time. ringed g (kept-a g c) (side-a g c) c.close.ensures.closes c.close.ensures.bare late speed o done s now front rest are n allowed w time spans t rings;
  cards = λ late speed o done s now front rest are n allowed vehicle w cards time. cards_ g (kept-a g c) (side-a g c) c.close.ensures.closes c.close.ensures.bare late speed o done s now front rest are n allowed w time cards;
  stands = λ late speed o done s now front rest are n allowed w time. stands_ g (kept-a g c) (side-a g c) c.close.ensures.closes c.close.ensures.bare late speed o done s now front rest are n allowed w time;
}

pub returns-in-A-clause-goes : goal.returns-in-A-clause-goes
returns-in-A-clause-goes g c = record {
  later = later g (kept-a g c) (side-a g c) c.close.ensures.closes c.close.ensures.bare;
  calm = calm g (kept-a g c) (side-a g c) c.close.ensures.closes c.close.ensures.bare;
  more = more g (kept-a g c) (side-a g c) c.close.ensures.closes c.close.ensures.bare;
  most =
      let first = c.settle.ensures.goes.most in
      let next = c.close.ensures.closes.most in
      record {
        unit = (let a = first.unit in let b = next.0 in omega (arith, a, b));
        card_a = (let a = first.card_a in let b = next.1 in omega (arith, a, b));
        card_b = (let a = first.card_b in omega (arith, a));
      };
}

pub returns-in-B-clause-behind : goal.returns-in-B-clause-behind
returns-in-B-clause-behind g c = record {
  held =
      record {
        held =
            let e = c.close-in-B.ensures.closes in
            let going = going-with g (kept-b g c) B c.in-B.is in
            held-closed B c.args.withdrawal.slot c.args.withdrawal.at c.settle.new.run c.close-in-B.new.run c.settle.new.outcome.breaks c.close-in-B.new.breaks e.closed.0 e.closed.1 (g.M.Medium.state c.settle.new.unit) (g.M.Medium.state c.close-in-B.new.unit) (g.D.Chip.state c.settle.new.card_b) (g.D.Chip.state c.close-in-B.new.card) (g.C.Chip.state c.settle.new.card_a)
            (g.D.Chip.card c.settle.new.card_b) (g.D.Chip.card c.close-in-B.new.card) (g.C.Chip.card c.settle.new.card_a)
            (at-then g (kept-b g c)) c.settle.ensures.stands.held.held e.behind.unit e.behind.card e.behind.size (ungiven_of going.span, None, e.stands (ungiven_of going.span) going.cabin);
        cause = cause_after c.in_ok-settle.ensures.stands.held.cause c.close-in-B.ensures.closes.behind.cause;
      };
  going =
      let e = c.close-in-B.ensures.closes in
      let going = going-with g (kept-b g c) B c.in-B.is in
      on_ok c.close-in-B.result (λ well.
      going-closed B c.args.withdrawal.slot c.args.withdrawal.at c.settle.new.run c.close-in-B.new.run c.settle.new.outcome.breaks c.close-in-B.new.breaks e.closed.0 e.closed.1 (g.M.Medium.state c.settle.new.unit) (g.M.Medium.state c.close-in-B.new.unit) (g.D.Chip.state c.settle.new.card_b) (g.D.Chip.state c.close-in-B.new.card) (g.C.Chip.state c.settle.new.card_a)
      (g.D.Chip.card c.settle.new.card_b) (g.D.Chip.card c.close-in-B.new.card) (g.C.Chip.card c.settle.new.card_a)
      going (ok_gives c.close-in-B.result e.behind.ready well) e.behind.card (λ card h. ok_gives c.close-in-B.result (e.behind.rows card h) well) (e.stands (ungiven_of going.span) going.cabin)
      (knows-left c.settle.new.run.watch.newest (g.M.Medium.state c.settle.new.unit) (g.M.Medium.state c.close-in-B.new.unit) (g.met.M.Medium.coherent c.settle.new.unit) (g.met.M.Medium.coherent c.close-in-B.new.unit) going.ready.unit_ready.works e.writes.speeds));
}

pub returns-in-B-clause-empty : goal.returns-in-B-clause-empty
returns-in-B-clause-empty g c = λ none. absurd (let wrong : None ≡ Some B = sym none ∙ seat-of g (kept-b g c) B c.in-B.is in cc)

pub returns-in-B-clause-withdrawn : goal.returns-in-B-clause-withdrawn
returns-in-B-clause-withdrawn g c = record {
  card = withdrawn g (kept-b g c) (side-b g c) c.close-in-B.ensures.closes c.close-in-B.ensures.bare;
  run = only g (kept-b g c) (side-b g c) c.close-in-B.ensures.closes c.close-in-B.ensures.bare;
  outcome = rest_ g (kept-b g c) (side-b g c) c.close-in-B.ensures.closes c.close-in-B.ensures.bare;
  takes = takes g (kept-b g c) (side-b g c) c.close-in-B.ensures.closes c.close-in-B.ensures.bare;
}

pub returns-in-B-clause-leaves : goal.returns-in-B-clause-leaves
returns-in-B-clause-leaves g c = record {
  booked = booked g (kept-b g c) (side-b g c) c.close-in-B.ensures.closes c.close-in-B.ensures.bare;
  events = events g (kept-b g c) (side-b g c) c.close-in-B.ensures.closes c.close-in-B.ensures.bare;
  rings = rings_ g (kept-b g c) (side-b g c) c.close-in-B.ensures.closes c.close-in-B.ensures.bare;
  shut = shut g (kept-b g c) (side-b g c) c.close-in-B.ensures.closes c.close-in-B.ensures.bare;
}

pub returns-in-B-clause-promises : goal.returns-in-B-clause-promises
returns-in-B-clause-promises g c = record {
  recorded = λ late speed o done s now front rest are n allowed w time. recorded g (kept-b g c) (side-b g c) c.close-in-B.ensures.closes c.close-in-B.ensures.bare late speed o done s now front rest are n allowed w time;
  evented = λ late speed o done s now front rest are n allowed w events time. evented g (kept-b g c) (side-b g c) c.close-in-B.ensures.closes c.close-in-B.ensures.bare late speed o done s now front rest are n allowed w time events;
  ringed = λ late speed o done s now front rest are n allowed w spans t rings time. ringed g (kept-b g c) (side-b g c) c.close-in-B.ensures.closes c.close-in-B.ensures.bare late speed o done s now front rest are n allowed w time spans t rings;
  cards = λ late speed o done s now front rest are n allowed vehicle w cards time. cards_ g (kept-b g c) (side-b g c) c.close-in-B.ensures.closes c.close-in-B.ensures.bare late speed o done s now front rest are n allowed w time cards;
  stands = λ late speed o done s now front rest are n allowed w time. stands_ g (kept-b g c) (side-b g c) c.close-in-B.ensures.closes c.close-in-B.ensures.bare late speed o done s now front rest are n allowed w time;
}

pub returns-in-B-clause-goes : goal.returns-in-B-clause-goes
returns-in-B-clause-goes g c = record {
  later = later g (kept-b g c) (side-b g c) c.close-in-B.ensures.closes c.close-in-B.ensures.bare;
  calm = calm g (kept-b g c) (side-b g c) c.close-in-B.ensures.closes c.close-in-B.ensures.bare;
  more = more g (kept-b g c) (side-b g c) c.close-in-B.ensures.closes c.close-in-B.ensures.bare;
  most =
      let first = c.settle.ensures.goes.most in
      let next = c.close-in-B.ensures.closes.most in
      record {
        unit = (let a = first.unit in let b = next.0 in omega (arith, a, b));
        card_b = (let a = first.card_b in let b = next.1 in omega (arith, a, b));
        card_a = (let a = first.card_a in omega (arith, a));
      };
}

pub settle-requires-clause-room : goal.settle-requires-clause-room
settle-requires-clause-room g c = record {
  marks = c.requires.marks;
  breaks = first_of (search rules, grind (arith, common_steps));
}
