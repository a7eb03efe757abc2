use Rattle.std.proofs.lemmas.Grind.{common_steps}
use Rattle.std.proofs.Common.{rules, ◌≡◌, ◌∙◌, ℕ, ◌+◌, ◌*◌, ◌/◌, ◌==◌, Bool, true, false, cond, Option, Some, None, refl, ap, sym, subst, arith}
use Rattle.std.specs.Prelude.{is_err, List, [], ◌∷◌, ◌++◌, IfSome, not}
use Rattle.tach_media.specs.Medium.{HasCause, State, IsCoherent, LeavesOnly}
use Rattle.tach_media.proofs.Runs.{cause_after, no_reads, on_ok}
use Rattle.unit_notes.specs.event_model.declared.entries.Span.{Span}
use Rattle.unit_notes.specs.event_model.Spans.{gap_of}
use Rattle.unit_notes.specs.declared.unit_event.UnitEvent.{UnitEvent}
use Rattle.run_minutes.proofs.Seats.{sessions-none}
use Rattle.activity_codec.specs.declared.values.Slot.TheVariants.{Driver, CoDriver}
use Rattle.run_crew.specs.card_slots.Calls.{seat_in, card_in}
use Rattle.run_minutes.specs.declared.keeper.Moment.{Moment}
use Rattle.run_acts.specs.declared.run.Run.{Run}
use Rattle.run_acts.specs.Acting.{IsNotedIn, now_moment}
use Rattle.run_acts.specs.Noting.{NoGap, UnitFailed, DriverFell, BothSlots, IsGapNoted, AreGapEvents, gap_event, fall_events}
use Rattle.unit_notes.specs.event_model.declared.kinds.TheConstants.{POWER_INTERRUPTION}
use Rattle.unit_model.specs.Image.{IsUnit}
use Rattle.unit_notes.specs.Entries.{fault_bytes}
use Rattle.unit_notes.specs.Noting.{IsEventNoted, IsNotingEvent}
use Rattle.run_crew.specs.declared.cards.Crew.{Crew}
use Rattle.run_events.specs.Entries.{entry_of, card_entry}
use Rattle.run_acts.specs.NotedEvents.{NotesEvents}
use Rattle.run_acts.proofs.NotedEvents.{one-noted, same-noted, then-noted}
use Rattle.log_model.specs.Log.{In}
use Rattle.run_minutes.specs.run_promise.Between.{devices}
use Rattle.run_record.specs.Within.{Beginning}
use Rattle.run_acts.specs.Recording.{GoesOnOrFails, log_of}
use Rattle.run_acts.proofs.Comings.{leaves-more}
use Rattle.run_acts.proofs.NoteRecorded.{unit-recorded, power-noted, unit-leaves, left-then}
use Rattle.device_calls.specs.safety_model.Safe.{breakdowns_of, Devices, card_of}
use Rattle.run_acts.specs.ActsEvented.{IsFailing}
use Rattle.run_acts.proofs.Kept.{moved-going}
use Rattle.run_minutes.proofs.Units.{unit-stays}
use Rattle.run_insertion.proofs.Noted.{noted-ready, noted-row}
use Rattle.run_events.specs.run_rings.Same.{LeavesRings}
use Rattle.run_events.proofs.run_rings.Same.{rings-left, rings-moments, rings-then, table-outside}
use Rattle.run_events.proofs.NoteSpeeds.{event-leaves-speeds}
use Rattle.run_events.proofs.Newest.{knows-left}
use Rattle.run_minutes.proofs.Later.{state-by, later-same, later-then, later-of-unit}
use Rattle.run_acts.proofs.RingedGap.{note-ringed}
use Rattle.card_files.specs.declared.card_event.CardEvent.{CardEvent}
use Rattle.unit_model.specs.minute_model.Span.{ungiven_of}
use Rattle.run_crew.specs.Cards.{session_of}
use Rattle.trace_model.specs.declared.Card.{Card}
use Rattle.trace_model.specs.declared.Card.TheVariants.{A, B}
use Rattle.activity_codec.specs.declared.values.Slot.{Slot}
use Rattle.log_model.specs.declared.lines.Break.{Break}
use Rattle.run_outcome.specs.Lines.{Listed}
use Rattle.run_minutes.specs.unit_memory.declared.memory.UnitFacts.{UnitFacts}
use Rattle.run_acts.specs.CardNotes.{NotesOn, NotesOnCards, LeavesPlaces, on_seat, gap_on}
use Rattle.run_acts.proofs.CardNotes.{both-cards, on-none, on-unbegun, session-noted, both-noted, first-noted}
use Rattle.run_acts.proofs.CardPlaces.{places-self, leaves-then}
use Rattle.run_minutes.proofs.Calm.{calm-of-unit, calm-same, calm-then}
use Rattle.run_acts.proofs.OneCard.{none-there}
use Rattle.run_minutes.proofs.Writes.{wrote-none}
use Rattle.run_acts.proofs.gap.note_gap.Goals as goal

pub note_in-requires-clause-power : goal.note_in-requires-clause-power
note_in-requires-clause-power g c = record {
  lit = first_of (search rules, grind (arith, common_steps));
  low = first_of (search rules, grind (arith, common_steps));
  held = first_of (search rules, grind (arith, common_steps));
  going =
      let run = c.args.run.now in
      let h = c.requires.acting.going in
      let before = g.met.M.Medium.coherent c.args.unit.now in
      let after = g.met.M.Medium.coherent c.note_event.new.unit in
      let ready = noted-ready before after c.note_event.ensures.journal run.keeper h.ready.unit_ready c.in_ok-note_event.ensures.cause.works in
      moved-going None None (run.next / 60) run run h refl refl refl (record { unit_ready = ready; card_a = h.ready.card_a; card_b = h.ready.card_b })
      (λ card row. noted-row before after c.note_event.ensures.journal run.keeper h.ready.unit_ready run.keeper.cabin.cards card row) refl h.cabin (sessions-none run.keeper.cabin.cards) refl refl
      (knows-left run.watch.newest (g.M.Medium.state c.args.unit.now) (g.M.Medium.state c.note_event.new.unit) before after h.ready.unit_ready.works
      (event-leaves-speeds c.card_gap-event.result.kind (fault_bytes c.card_gap-event.result) (g.M.Medium.state c.args.unit.now) (g.M.Medium.state c.note_event.new.unit) before c.note_event.ensures.moments));
}

-- a gap begins at no second 0
gap-begins : (kept now : ℕ) (span : Span) → gap_of kept now ≡ Some span → span.begin ≡ 0 → ⊥
gap-begins kept now span is none = by (kept == 0) is
  where
    by : (b : Bool) → cond b None (Some (record { begin = 60 * (kept + 1); end = now })) ≡ Some span → ⊥
    by true h = cc
    by false h =
        let at : 60 * (kept + 1) ≡ span.begin = cc in
        omega (arith, at, none)

pub note_in-requires-2-clause-gap : goal.note_in-requires-2-clause-gap
note_in-requires-2-clause-gap g c = record {
  kind = first_of (search rules, grind (arith, common_steps));
  begin = λ none.
      let there : gap_of c.args.kept c.args.run.now.next ≡ Some c.in-Some.span = cc in
      let at : c.card_gap-event.result.begin.0 ≡ c.in-Some.span.begin = ap (λ (e : UnitEvent). e.begin.0) c.card_gap-event.ensures in
      gap-begins c.args.kept c.args.run.now.next c.in-Some.span there (sym at ∙ none);
}

-- ---- what is recorded

-- an event that is noted leaves the rings
event-leaves : (kind : ℕ) (front : List ℕ) (U V : State) → IsCoherent U → LeavesOnly U V (IsNotingEvent kind front) → LeavesRings U V
event-leaves kind front U V whole moments = rings-moments U V (IsNotingEvent kind front) whole moments (λ x n moment. table-outside kind x n moment.outside)

-- ---- what is noted on the unit

-- the interruption on the unit
module _ (run : Run) (span : Span) (event : UnitEvent) (is : event ≡ gap_event span run) (U V A B C D : State) (whole : IsCoherent U) (behind : IsCoherent V) (unit : IsUnit U) where
  pub gap-noted : (failed : Bool) → (failed ≡ false → IfSome U.image (λ x. IfSome V.image (IsEventNoted event.kind (fault_bytes event) x))) → LeavesOnly U V (IsNotingEvent event.kind (fault_bytes event)) → V.works ≡ not failed →
      NotesEvents (gap_event span run ∷ []) failed (devices U A B) (devices V C D)
  gap-noted failed noted moments works = subst (λ (v : UnitEvent). NotesEvents (v ∷ []) failed (devices U A B) (devices V C D)) is (one-noted U V A B C D whole behind unit event failed noted moments works)

never : true ≡ false → ⊥
never h = cc

-- ---- the events that the cards show

-- the cards, beside whichever unit
unit-apart : (card : Card) (U V X Y : State) (P : State → Type 0) → P (card_of (devices V X Y) card) → P (card_of (devices U X Y) card)
unit-apart A U V X Y P is = is
unit-apart B U V X Y P is = is

-- what the unit was told of the vehicle stays
memory-noted : (o : Option Card) (slot : Slot) (at : Moment) (old new : Run) (breaks after : Listed Break) (fell : Bool) → IsNotedIn o slot at old new breaks after fell → new.keeper.memory ≡ old.keeper.memory
memory-noted None slot at old new breaks after fell is = ap (λ (r : Run). r.keeper.memory) is.0
memory-noted (Some one) slot at old new breaks after false is = ap (λ (r : Run). r.keeper.memory) is.0.run
memory-noted (Some one) slot at old new breaks after true is = ap (λ (r : Run). r.keeper.memory) is.0.run

-- the interruption as a card has it
card-gap : (run : Run) (span : Span) (told : UnitEvent) (event : CardEvent) → told ≡ gap_event span run → event ≡ card_entry told run.keeper.memory.registration → event ∷ [] ≡ gap_on (Some span) run.keeper.memory.registration
card-gap run span told event is at = ap (λ (v : CardEvent). v ∷ []) (at ∙ ap (λ (u : UnitEvent). card_entry u run.keeper.memory.registration) is)

gap-there : (run : Run) (o : Option Span) (span : Span) (told : UnitEvent) → o ≡ Some span → told ≡ gap_event span run → card_entry told run.keeper.memory.registration ∷ [] ≡ gap_on o run.keeper.memory.registration
gap-there run o span told there is = card-gap run span told (card_entry told run.keeper.memory.registration) is refl ∙ ap (λ (p : Option Span). gap_on p run.keeper.memory.registration) (sym there)

-- ---- where no tear of a failed call is told no card has broken down

pub returns-in_default-clause-noted : goal.returns-in_default-clause-noted
returns-in_default-clause-noted g c = record {
  reach =
      let run = c.args.run.now in
      let none : gap_of c.args.kept run.next ≡ None = sym c.power_gap.ensures ∙ none-there c.power_gap.result c.in_default.not-Some in (
        NoGap,
        subst (λ (o : Option Span). IsGapNoted o (now_moment run) false run run c.args.breaks.now c.args.breaks.now NoGap) (sym none) (refl, refl, refl),
      );
  run = refl;
  room = (refl, omega arith);
}

pub returns-in_default-clause-leaves : goal.returns-in_default-clause-leaves
returns-in_default-clause-leaves g c = record {
  card_events =
      let run = c.args.run.now in
      let d = devices (g.M.Medium.state c.args.unit.now) (g.C.Chip.state c.args.card_a.now) (g.D.Chip.state c.args.card_b.now) in
      let none : gap_of c.args.kept run.next ≡ None = sym c.power_gap.ensures ∙ none-there c.power_gap.result c.in_default.not-Some in
      λ card. subst (λ (o : Option Span). NotesOn false (session_of run.keeper.cabin.cards card) (session_of run.keeper.cabin.cards card) (gap_on o run.keeper.memory.registration) (card_of d card) (card_of d card)) (sym none)
      (on-none false (session_of run.keeper.cabin.cards card) (card_of d card));
  places =
      let d = devices (g.M.Medium.state c.args.unit.now) (g.C.Chip.state c.args.card_a.now) (g.D.Chip.state c.args.card_b.now) in
      λ card. places-self (session_of c.args.run.now.keeper.cabin.cards card) (card_of d card);
  events =
      let run = c.args.run.now in
      let none : gap_of c.args.kept run.next ≡ None = sym c.power_gap.ensures ∙ none-there c.power_gap.result c.in_default.not-Some in (
        NoGap,
        [],
        subst (λ (o : Option Span). AreGapEvents o (now_moment run) false run run c.args.breaks.now c.args.breaks.now NoGap []) (sym none) ((refl, refl, refl), refl),
        same-noted (g.M.Medium.state c.args.unit.now) (g.C.Chip.state c.args.card_a.now) (g.D.Chip.state c.args.card_b.now),
      );
  rings = rings-left (g.M.Medium.state c.args.unit.now);
  beside = λ o done s out w power. (record { unit = λ x h. h; card = λ card x h. h }, λ bad. absurd (let wrong : false ≡ true = bad in cc));
}

pub returns-in_default-clause-promises : goal.returns-in_default-clause-promises
returns-in_default-clause-promises g c = record {
  recorded = λ o done s out w power. record { goes = w; began = refl };
  ringed =
      let run = c.args.run.now in
      let d : Devices = devices (g.M.Medium.state c.args.unit.now) (g.C.Chip.state c.args.card_a.now) (g.D.Chip.state c.args.card_b.now) in
      note-ringed (gap_of c.args.kept run.next) false run run c.args.breaks.now c.args.breaks.now d d ((returns-in_default-clause-noted g c).reach) ((returns-in_default-clause-leaves g c).rings) ((returns-in_default-clause-leaves g c).beside) ((returns-in_default-clause-leaves g c).places);
}

pub returns-in_default-clause-behind : goal.returns-in_default-clause-behind
returns-in_default-clause-behind g c = record {
  held =
      record {
        held = c.requires.acting.held;
        cause = (no_reads (g.M.Medium.state c.args.unit.now) c.requires.acting.going.ready.unit_ready.works).cause;
      };
  going = first_of (search rules, grind (arith, common_steps));
}

pub returns-in_default-clause-goes : goal.returns-in_default-clause-goes
returns-in_default-clause-goes g c = record {
  later = later-same (devices (g.M.Medium.state c.args.unit.now) (g.C.Chip.state c.args.card_a.now) (g.D.Chip.state c.args.card_b.now));
  calm = calm-same (devices (g.M.Medium.state c.args.unit.now) (g.C.Chip.state c.args.card_a.now) (g.D.Chip.state c.args.card_b.now));
  more = omega arith;
  most = wrote-none 12 8 (devices (g.M.Medium.state c.args.unit.now) (g.C.Chip.state c.args.card_a.now) (g.D.Chip.state c.args.card_b.now));
}

pub returns-in_err-note_event-clause-noted : goal.returns-in_err-note_event-clause-noted
returns-in_err-note_event-clause-noted g c = record {
  reach =
      let run = c.args.run.now in
      let there : gap_of c.args.kept run.next ≡ Some c.in-Some.span = cc in
      let failed : true ≡ is_err c.from_residual.result = search rules in (
        UnitFailed,
        subst (λ (o : Option Span). IsGapNoted o (now_moment run) (is_err c.from_residual.result) run run c.args.breaks.now c.args.breaks.now UnitFailed) (sym there) (sym failed, refl, refl),
      );
  run = refl;
  room = (refl, omega arith);
}

pub returns-in_err-note_event-clause-leaves : goal.returns-in_err-note_event-clause-leaves
returns-in_err-note_event-clause-leaves g c = record {
  card_events =
      let run = c.args.run.now in
      let d = devices (g.M.Medium.state c.args.unit.now) (g.C.Chip.state c.args.card_a.now) (g.D.Chip.state c.args.card_b.now) in
      let failed : true ≡ is_err c.from_residual.result = search rules in
      λ card. subst (λ (q : Bool). NotesOn q (session_of run.keeper.cabin.cards card) (session_of run.keeper.cabin.cards card) (gap_on (gap_of c.args.kept run.next) run.keeper.memory.registration) (card_of d card) (card_of d card)) failed
      (on-unbegun (session_of run.keeper.cabin.cards card) (session_of run.keeper.cabin.cards card) (gap_on (gap_of c.args.kept run.next) run.keeper.memory.registration) (card_of d card));
  places =
      let cards = c.args.run.now.keeper.cabin.cards in
      let d = devices (g.M.Medium.state c.args.unit.now) (g.C.Chip.state c.args.card_a.now) (g.D.Chip.state c.args.card_b.now) in
      let e = devices (g.M.Medium.state c.note_event.new.unit) (g.C.Chip.state c.args.card_a.now) (g.D.Chip.state c.args.card_b.now) in
      both-cards (λ card. LeavesPlaces (session_of cards card) (card_of d card) (card_of e card)) (places-self (session_of cards A) (g.C.Chip.state c.args.card_a.now)) (places-self (session_of cards B) (g.D.Chip.state c.args.card_b.now));
  events =
      let run = c.args.run.now in
      let U = g.M.Medium.state c.args.unit.now in
      let V = g.M.Medium.state c.note_event.new.unit in
      let X = g.C.Chip.state c.args.card_a.now in
      let Y = g.D.Chip.state c.args.card_b.now in
      let span = c.in-Some.span in
      let there : gap_of c.args.kept run.next ≡ Some span = cc in
      let failed : true ≡ is_err c.from_residual.result = search rules in
      let same : c.card_gap-event.result ≡ gap_event span run = c.card_gap-event.ensures ∙ ap (λ (q : Crew). entry_of POWER_INTERRUPTION span.begin span.end q q) c.crew.ensures in
      let e = c.in_err-note_event.ensures in (
        UnitFailed,
        gap_event span run ∷ [],
        subst (λ (o : Option Span). AreGapEvents o (now_moment run) (is_err c.from_residual.result) run run c.args.breaks.now c.args.breaks.now UnitFailed (gap_event span run ∷ [])) (sym there) ((sym failed, refl, refl), refl),
        subst (λ (q : Bool). NotesEvents (gap_event span run ∷ []) q (devices U X Y) (devices V X Y)) failed
            (gap-noted run span c.card_gap-event.result same U V X Y X Y (g.met.M.Medium.coherent c.args.unit.now) (g.met.M.Medium.coherent c.note_event.new.unit) c.requires.acting.going.ready.unit_ready.is_unit true (λ well. absurd (never well)) e.moments e.cause.works),
      );
  rings = event-leaves c.card_gap-event.result.kind (fault_bytes c.card_gap-event.result) (g.M.Medium.state c.args.unit.now) (g.M.Medium.state c.note_event.new.unit) (g.met.M.Medium.coherent c.args.unit.now) c.note_event.ensures.moments;
  beside =
      λ o done s out w power.
      let run = c.args.run.now in
      let lit = c.requires.acting.going in
      let V = g.M.Medium.state c.note_event.new.unit in
      let X = g.C.Chip.state c.args.card_a.now in
      let Y = g.D.Chip.state c.args.card_b.now in
      let one = unit-leaves o done s 0 run (record out { breaks = c.args.breaks.now }) (g.M.Medium.state c.args.unit.now) V X Y (g.met.M.Medium.coherent c.args.unit.now) c.note_event.ensures.journal lit.span lit.stands lit.next w s.actions ([], refl, refl) true c.in_err-note_event.ensures.cause in
      (one.0, λ bad. one.1 refl);
}

pub returns-in_err-note_event-clause-promises : goal.returns-in_err-note_event-clause-promises
returns-in_err-note_event-clause-promises g c = record {
  recorded =
      λ o done s out w power.
      let run = c.args.run.now in
      let lit = c.requires.acting.going in
      let V = g.M.Medium.state c.note_event.new.unit in
      let X = g.C.Chip.state c.args.card_a.now in
      let Y = g.D.Chip.state c.args.card_b.now in
      let failed : true ≡ is_err c.from_residual.result = search rules in
      subst (λ (q : Bool). GoesOnOrFails q o done s (In 0) [] run (record out { breaks = c.args.breaks.now }) (devices V X Y) w.within.b) failed
      (unit-recorded o done s 0 run (record out { breaks = c.args.breaks.now }) (g.M.Medium.state c.args.unit.now) V X Y (g.met.M.Medium.coherent c.args.unit.now) c.note_event.ensures.journal lit.span lit.stands lit.next w true c.in_err-note_event.ensures.cause (λ fine. leaves-more (g.M.Medium.state c.args.unit.now) (g.M.Medium.state c.note_event.new.unit)
      (event-leaves c.card_gap-event.result.kind (fault_bytes c.card_gap-event.result) (g.M.Medium.state c.args.unit.now) (g.M.Medium.state c.note_event.new.unit) (g.met.M.Medium.coherent c.args.unit.now) c.note_event.ensures.moments)));
  ringed =
      let run = c.args.run.now in
      let d : Devices = devices (g.M.Medium.state c.args.unit.now) (g.C.Chip.state c.args.card_a.now) (g.D.Chip.state c.args.card_b.now) in
      let e : Devices = devices (g.M.Medium.state c.note_event.new.unit) (g.C.Chip.state c.args.card_a.now) (g.D.Chip.state c.args.card_b.now) in
      note-ringed (gap_of c.args.kept run.next) (is_err c.from_residual.result) run run c.args.breaks.now c.args.breaks.now d e ((returns-in_err-note_event-clause-noted g c).reach) ((returns-in_err-note_event-clause-leaves g c).rings) ((returns-in_err-note_event-clause-leaves g c).beside) ((returns-in_err-note_event-clause-leaves g c).places);
}

pub returns-in_err-note_event-clause-behind : goal.returns-in_err-note_event-clause-behind
returns-in_err-note_event-clause-behind g c = record {
  held =
      record {
        held = record { is_unit = unit-stays c.note_event.ensures.journal c.requires.acting.held.is_unit; odometer = c.requires.acting.held.odometer; minute = c.requires.acting.held.minute; card_a = c.requires.acting.held.card_a; card_b = c.requires.acting.held.card_b; stand = c.requires.acting.held.stand };
        cause =
            let failed : true ≡ is_err c.from_residual.result = search rules in
            subst (λ (f : Bool). HasCause (g.M.Medium.state c.args.unit.now) (g.M.Medium.state c.note_event.new.unit) f) failed c.in_err-note_event.ensures.cause;
      };
  going = first_of (search rules, grind (arith, common_steps));
}

pub returns-in_err-note_event-clause-goes : goal.returns-in_err-note_event-clause-goes
returns-in_err-note_event-clause-goes g c = record {
  later = later-of-unit (g.M.Medium.state c.args.unit.now) (g.M.Medium.state c.note_event.new.unit) (g.C.Chip.state c.args.card_a.now) (g.D.Chip.state c.args.card_b.now) (state-by (g.M.Medium.state c.args.unit.now) (g.M.Medium.state c.note_event.new.unit) _ c.note_event.ensures.journal.later c.note_event.ensures.cause) (event-leaves-speeds c.card_gap-event.result.kind (fault_bytes c.card_gap-event.result) (g.M.Medium.state c.args.unit.now) (g.M.Medium.state c.note_event.new.unit) (g.met.M.Medium.coherent c.args.unit.now) c.note_event.ensures.moments);
  calm = calm-of-unit (g.M.Medium.state c.args.unit.now) (g.M.Medium.state c.note_event.new.unit) (g.C.Chip.state c.args.card_a.now) (g.D.Chip.state c.args.card_b.now);
  more = omega arith;
  most = record { unit = (let one = c.in_err-note_event.ensures.most in omega (arith, one)); card_a = omega arith; card_b = omega arith };
}

pub returns-in_err-note_in-clause-noted : goal.returns-in_err-note_in-clause-noted
returns-in_err-note_in-clause-noted g c = record {
  reach =
      let run = c.args.run.now in
      let there : gap_of c.args.kept run.next ≡ Some c.in-Some.span = cc in
      let failed : true ≡ is_err c.from_residual-in_err-note_in.result = search rules in
      let n = c.in_err-note_in.ensures.noted.fell in (
        DriverFell,
        subst (λ (o : Option Span). IsGapNoted o (now_moment run) (is_err c.from_residual-in_err-note_in.result) run c.note_in.new.run c.args.breaks.now c.note_in.new.breaks DriverFell) (sym there) (
          sym failed,
          subst (λ (fell : Bool). IsNotedIn (card_in (seat_in run.keeper.cabin.slots.seats Driver)) Driver (now_moment run) run c.note_in.new.run c.args.breaks.now c.note_in.new.breaks fell) (n.2 refl) n.1,
        ),
      );
  run = c.note_in.ensures.noted.run;
  room = c.note_in.ensures.noted.room;
}

pub returns-in_err-note_in-clause-leaves : goal.returns-in_err-note_in-clause-leaves
returns-in_err-note_in-clause-leaves g c = record {
  card_events =
      let run = c.args.run.now in
      let between : Run = c.note_in.new.run in
      let h = c.requires.acting.going in
      let V = g.M.Medium.state c.note_event.new.unit in
      let d = devices V (g.C.Chip.state c.args.card_a.now) (g.D.Chip.state c.args.card_b.now) in
      let e = devices (g.M.Medium.state c.note_in.new.unit) (g.C.Chip.state c.note_in.new.card_a) (g.D.Chip.state c.note_in.new.card_b) in
      let there : gap_of c.args.kept run.next ≡ Some c.in-Some.span = cc in
      let failed : true ≡ is_err c.from_residual-in_err-note_in.result = search rules in
      let told : c.card_gap-event.result ≡ gap_event c.in-Some.span run = c.card_gap-event.ensures ∙ ap (λ (q : Crew). entry_of POWER_INTERRUPTION c.in-Some.span.begin c.in-Some.span.end q q) c.crew.ensures in
      let event : CardEvent = card_entry c.card_gap-event.result run.keeper.memory.registration in
      let noted = first-noted (ungiven_of h.span) run between h.cabin event d e c.in_err-note_in.ensures.leaves.card_events in
      λ card. unit-apart card (g.M.Medium.state c.args.unit.now) V (g.C.Chip.state c.args.card_a.now) (g.D.Chip.state c.args.card_b.now)
      (λ X. NotesOn (is_err c.from_residual-in_err-note_in.result) (session_of run.keeper.cabin.cards card) (session_of between.keeper.cabin.cards card) (gap_on (gap_of c.args.kept run.next) run.keeper.memory.registration) X (card_of e card))
      (subst (λ (q : Bool). NotesOn q (session_of run.keeper.cabin.cards card) (session_of between.keeper.cabin.cards card) (gap_on (gap_of c.args.kept run.next) run.keeper.memory.registration) (card_of d card) (card_of e card)) failed
      (subst (λ (es : List CardEvent). NotesOn true (session_of run.keeper.cabin.cards card) (session_of between.keeper.cabin.cards card) es (card_of d card) (card_of e card)) (gap-there run (gap_of c.args.kept run.next) c.in-Some.span c.card_gap-event.result there told) (noted card)));
  places =
      let cards = c.args.run.now.keeper.cabin.cards in
      let V = g.M.Medium.state c.note_event.new.unit in
      let e = devices (g.M.Medium.state c.note_in.new.unit) (g.C.Chip.state c.note_in.new.card_a) (g.D.Chip.state c.note_in.new.card_b) in
      λ card. unit-apart card (g.M.Medium.state c.args.unit.now) V (g.C.Chip.state c.args.card_a.now) (g.D.Chip.state c.args.card_b.now)
      (λ X. LeavesPlaces (session_of cards card) X (card_of e card)) (c.in_err-note_in.ensures.leaves.places card);
  events =
      let run = c.args.run.now in
      let U = g.M.Medium.state c.args.unit.now in
      let V = g.M.Medium.state c.note_event.new.unit in
      let X = g.C.Chip.state c.args.card_a.now in
      let Y = g.D.Chip.state c.args.card_b.now in
      let E = devices (g.M.Medium.state c.note_in.new.unit) (g.C.Chip.state c.note_in.new.card_a) (g.D.Chip.state c.note_in.new.card_b) in
      let span = c.in-Some.span in
      let there : gap_of c.args.kept run.next ≡ Some span = cc in
      let failed : true ≡ is_err c.from_residual-in_err-note_in.result = search rules in
      let same : c.card_gap-event.result ≡ gap_event span run = c.card_gap-event.ensures ∙ ap (λ (q : Crew). entry_of POWER_INTERRUPTION span.begin span.end q q) c.crew.ensures in
      let e = c.in_ok-note_event.ensures in
      let n = c.in_err-note_in.ensures.leaves.events in
      let fell : n.fell ≡ true = n.failing refl in
      let first = gap-noted run span c.card_gap-event.result same U V X Y X Y (g.met.M.Medium.coherent c.args.unit.now) (g.met.M.Medium.coherent c.note_event.new.unit) c.requires.acting.going.ready.unit_ready.is_unit false (λ well. e.noted) e.moments e.cause.works in
      let notes : NotesEvents (fall_events true run.next c.note_in.new.run) true (devices V X Y) E = subst (λ (b : Bool). NotesEvents (fall_events b run.next c.note_in.new.run) true (devices V X Y) E) fell n.notes in
      let vs = gap_event span run ∷ fall_events true run.next c.note_in.new.run in (
        DriverFell,
        vs,
        subst (λ (o : Option Span). AreGapEvents o (now_moment run) (is_err c.from_residual-in_err-note_in.result) run c.note_in.new.run c.args.breaks.now c.note_in.new.breaks DriverFell vs) (sym there) (
          (sym failed, subst (λ (b : Bool). IsNotedIn (card_in (seat_in run.keeper.cabin.slots.seats Driver)) Driver (now_moment run) run c.note_in.new.run c.args.breaks.now c.note_in.new.breaks b) fell n.noted),
          refl,
        ),
        subst (λ (q : Bool). NotesEvents vs q (devices U X Y) E) failed (then-noted (gap_event span run ∷ []) (fall_events true run.next c.note_in.new.run) true (devices U X Y) (devices V X Y) E first notes),
      );
  rings =
      let V = g.M.Medium.state c.note_event.new.unit in
      rings-then (g.M.Medium.state c.args.unit.now) V (g.M.Medium.state c.note_in.new.unit)
      (event-leaves c.card_gap-event.result.kind (fault_bytes c.card_gap-event.result) (g.M.Medium.state c.args.unit.now) V (g.met.M.Medium.coherent c.args.unit.now) c.note_event.ensures.moments) c.in_err-note_in.ensures.leaves.rings;
  beside =
      λ o done s out w power.
      let run = c.args.run.now in
      let lit = c.requires.acting.going in
      let U = g.M.Medium.state c.args.unit.now in
      let V = g.M.Medium.state c.note_event.new.unit in
      let X = g.C.Chip.state c.args.card_a.now in
      let Y = g.D.Chip.state c.args.card_b.now in
      let E = devices (g.M.Medium.state c.note_in.new.unit) (g.C.Chip.state c.note_in.new.card_a) (g.D.Chip.state c.note_in.new.card_b) in
      let w1 = unit-recorded o done s 0 run (record out { breaks = c.args.breaks.now }) U V X Y (g.met.M.Medium.coherent c.args.unit.now) c.note_event.ensures.journal lit.span lit.stands lit.next w false c.in_ok-note_event.ensures.cause
      (λ fine. leaves-more (g.M.Medium.state c.args.unit.now) (g.M.Medium.state c.note_event.new.unit)
      (event-leaves c.card_gap-event.result.kind (fault_bytes c.card_gap-event.result) (g.M.Medium.state c.args.unit.now) (g.M.Medium.state c.note_event.new.unit) (g.met.M.Medium.coherent c.args.unit.now) c.note_event.ensures.moments)) in
      let one = unit-leaves o done s 0 run (record out { breaks = c.args.breaks.now }) U V X Y (g.met.M.Medium.coherent c.args.unit.now) c.note_event.ensures.journal lit.span lit.stands lit.next w s.actions ([], refl, refl) false c.in_ok-note_event.ensures.cause in
      let two = c.in_err-note_in.ensures.leaves.beside o done s out w1.goes power in (
        left-then o (devices U X Y) (devices V X Y) E one.0 two.0,
        λ bad. subst (λ (b : Beginning). IsFailing o done s b.run (In 0) (log_of (record out { breaks = c.note_in.new.breaks })) (breakdowns_of E)) w1.began (two.1 refl),
      );
}

pub returns-in_err-note_in-clause-promises : goal.returns-in_err-note_in-clause-promises
returns-in_err-note_in-clause-promises g c = record {
  recorded =
      λ o done s out w power.
      let run = c.args.run.now in
      let lit = c.requires.acting.going in
      let V = g.M.Medium.state c.note_event.new.unit in
      let X = g.C.Chip.state c.args.card_a.now in
      let Y = g.D.Chip.state c.args.card_b.now in
      let E = devices (g.M.Medium.state c.note_in.new.unit) (g.C.Chip.state c.note_in.new.card_a) (g.D.Chip.state c.note_in.new.card_b) in
      let failed : true ≡ is_err c.from_residual-in_err-note_in.result = search rules in
      let w1 = unit-recorded o done s 0 run (record out { breaks = c.args.breaks.now }) (g.M.Medium.state c.args.unit.now) V X Y (g.met.M.Medium.coherent c.args.unit.now) c.note_event.ensures.journal lit.span lit.stands lit.next w false c.in_ok-note_event.ensures.cause
      (λ fine. leaves-more (g.M.Medium.state c.args.unit.now) (g.M.Medium.state c.note_event.new.unit)
      (event-leaves c.card_gap-event.result.kind (fault_bytes c.card_gap-event.result) (g.M.Medium.state c.args.unit.now) (g.M.Medium.state c.note_event.new.unit) (g.met.M.Medium.coherent c.args.unit.now) c.note_event.ensures.moments)) in
      subst (λ (q : Bool). GoesOnOrFails q o done s (In 0) [] c.note_in.new.run (record out { breaks = c.note_in.new.breaks }) E w.within.b) failed (c.in_err-note_in.ensures.recorded o done s out w1.goes power);
  ringed =
      let run = c.args.run.now in
      let d : Devices = devices (g.M.Medium.state c.args.unit.now) (g.C.Chip.state c.args.card_a.now) (g.D.Chip.state c.args.card_b.now) in
      let e : Devices = devices (g.M.Medium.state c.note_in.new.unit) (g.C.Chip.state c.note_in.new.card_a) (g.D.Chip.state c.note_in.new.card_b) in
      note-ringed (gap_of c.args.kept run.next) (is_err c.from_residual-in_err-note_in.result) run c.note_in.new.run c.args.breaks.now c.note_in.new.breaks d e
      ((returns-in_err-note_in-clause-noted g c).reach) ((returns-in_err-note_in-clause-leaves g c).rings) ((returns-in_err-note_in-clause-leaves g c).beside) ((returns-in_err-note_in-clause-leaves g c).places);
}

pub returns-in_err-note_in-clause-behind : goal.returns-in_err-note_in-clause-behind
returns-in_err-note_in-clause-behind g c = record {
  held =
      record {
        held = c.note_in.ensures.behind.held.held;
        cause =
            let failed : true ≡ is_err c.from_residual-in_err-note_in.result = search rules in
            subst (λ (f : Bool). HasCause (g.M.Medium.state c.args.unit.now) (g.M.Medium.state c.note_in.new.unit) f) failed (cause_after c.in_ok-note_event.ensures.cause c.in_err-note_in.ensures.behind.held.cause);
      };
  going = on_ok c.from_residual-in_err-note_in.result (λ well.
      let failed : true ≡ is_err c.from_residual-in_err-note_in.result = search rules in
      absurd (let bad : true ≡ false = failed ∙ well in cc));
}

pub returns-in_err-note_in-clause-goes : goal.returns-in_err-note_in-clause-goes
returns-in_err-note_in-clause-goes g c = record {
  later = later-then (devices (g.M.Medium.state c.args.unit.now) (g.C.Chip.state c.args.card_a.now) (g.D.Chip.state c.args.card_b.now)) (devices (g.M.Medium.state c.note_event.new.unit) (g.C.Chip.state c.args.card_a.now) (g.D.Chip.state c.args.card_b.now)) (devices (g.M.Medium.state c.note_in.new.unit) (g.C.Chip.state c.note_in.new.card_a) (g.D.Chip.state c.note_in.new.card_b)) (later-of-unit (g.M.Medium.state c.args.unit.now) (g.M.Medium.state c.note_event.new.unit) (g.C.Chip.state c.args.card_a.now) (g.D.Chip.state c.args.card_b.now) (state-by (g.M.Medium.state c.args.unit.now) (g.M.Medium.state c.note_event.new.unit) _ c.note_event.ensures.journal.later c.note_event.ensures.cause) (event-leaves-speeds c.card_gap-event.result.kind (fault_bytes c.card_gap-event.result) (g.M.Medium.state c.args.unit.now) (g.M.Medium.state c.note_event.new.unit) (g.met.M.Medium.coherent c.args.unit.now) c.note_event.ensures.moments)) c.note_in.ensures.goes.later;
  calm = calm-then (devices (g.M.Medium.state c.args.unit.now) (g.C.Chip.state c.args.card_a.now) (g.D.Chip.state c.args.card_b.now)) (devices (g.M.Medium.state c.note_event.new.unit) (g.C.Chip.state c.args.card_a.now) (g.D.Chip.state c.args.card_b.now)) (devices (g.M.Medium.state c.note_in.new.unit) (g.C.Chip.state c.note_in.new.card_a) (g.D.Chip.state c.note_in.new.card_b)) (calm-of-unit (g.M.Medium.state c.args.unit.now) (g.M.Medium.state c.note_event.new.unit) (g.C.Chip.state c.args.card_a.now) (g.D.Chip.state c.args.card_b.now)) c.note_in.ensures.goes.calm;
  more = c.note_in.ensures.goes.more;
  most =
      let one = c.in_ok-note_event.ensures.most in
      let next = c.in_err-note_in.ensures.goes.most in
      record {
        unit = (let a = next.unit in omega (arith, one, a));
        card_a = (let a = next.card_a in omega (arith, a));
        card_b = (let a = next.card_b in omega (arith, a));
      };
}

pub returns-clause-noted : goal.returns-clause-noted
returns-clause-noted g c = record {
  reach =
      let run = c.args.run.now in
      let between : Run = c.note_in.new.run in
      let there : gap_of c.args.kept run.next ≡ Some c.in-Some.span = cc in
      let one = c.in_ok-note_in.ensures.noted.fell in
      let two = c.note_in-2.ensures.noted.fell in
      let next : between.next ≡ run.next = ap (λ (r : Run). r.next) c.in_ok-note_in.ensures.noted.run in
      let same : now_moment between ≡ now_moment run = ap (λ (n : ℕ). record { second = n; begun = 0; late = false }) next in (
        BothSlots one.0 two.0,
        subst (λ (o : Option Span). IsGapNoted o (now_moment run) (is_err c.note_in-2.result) run c.note_in-2.new.run c.args.breaks.now c.note_in-2.new.breaks (BothSlots one.0 two.0)) (sym there) (
          record {
            between = between;
            told = c.note_in.new.breaks;
            first = one.1;
            second = subst (λ (m : Moment). IsNotedIn (card_in (seat_in between.keeper.cabin.slots.seats CoDriver)) CoDriver m between c.note_in-2.new.run c.note_in.new.breaks c.note_in-2.new.breaks two.0) same two.1;
          },
          two.2,
        ),
      );
  run = c.note_in-2.ensures.noted.run ∙ ap (λ (r : Run). record r { keeper = c.note_in-2.new.run.keeper }) c.in_ok-note_in.ensures.noted.run;
  room = (c.note_in-2.ensures.noted.room.0 ∙ c.note_in.ensures.noted.room.0, (let a = c.note_in.ensures.noted.room.1 in let b = c.note_in-2.ensures.noted.room.1 in omega (arith, a, b)));
}

pub returns-clause-leaves : goal.returns-clause-leaves
returns-clause-leaves g c = record {
  card_events =
      let run = c.args.run.now in
      let between : Run = c.note_in.new.run in
      let new : Run = c.note_in-2.new.run in
      let h = c.requires.acting.going in
      let V = g.M.Medium.state c.note_event.new.unit in
      let d = devices V (g.C.Chip.state c.args.card_a.now) (g.D.Chip.state c.args.card_b.now) in
      let m = devices (g.M.Medium.state c.note_in.new.unit) (g.C.Chip.state c.note_in.new.card_a) (g.D.Chip.state c.note_in.new.card_b) in
      let e = devices (g.M.Medium.state c.note_in-2.new.unit) (g.C.Chip.state c.note_in-2.new.card_a) (g.D.Chip.state c.note_in-2.new.card_b) in
      let failed = is_err c.note_in-2.result in
      let there : gap_of c.args.kept run.next ≡ Some c.in-Some.span = cc in
      let told : c.card_gap-event.result ≡ gap_event c.in-Some.span run = c.card_gap-event.ensures ∙ ap (λ (q : Crew). entry_of POWER_INTERRUPTION c.in-Some.span.begin c.in-Some.span.end q q) c.crew.ensures in
      let event : CardEvent = card_entry c.card_gap-event.result run.keeper.memory.registration in
      let one = c.in_ok-note_in.ensures.noted.fell in
      let two = c.note_in-2.ensures.noted.fell in
      let memory : between.keeper.memory ≡ run.keeper.memory = memory-noted (card_in (seat_in run.keeper.cabin.slots.seats Driver)) Driver (now_moment run) run between c.args.breaks.now c.note_in.new.breaks one.0 one.1 in
      let seconds = subst (λ (i : UnitFacts). NotesOnCards false between.keeper.cabin.cards new.keeper.cabin.cards (on_seat (seat_in between.keeper.cabin.slots.seats CoDriver) (card_entry c.card_gap-event.result i.registration)) m e) memory c.note_in-2.ensures.leaves.card_events in
      let noted = both-noted (ungiven_of h.span) run between new (now_moment run) (now_moment between) c.args.breaks.now c.note_in.new.breaks c.note_in-2.new.breaks one.0 two.0 h.cabin one.1 two.1 event failed d m e c.in_ok-note_in.ensures.leaves.card_events seconds in
      λ card. unit-apart card (g.M.Medium.state c.args.unit.now) V (g.C.Chip.state c.args.card_a.now) (g.D.Chip.state c.args.card_b.now)
      (λ X. NotesOn failed (session_of run.keeper.cabin.cards card) (session_of new.keeper.cabin.cards card) (gap_on (gap_of c.args.kept run.next) run.keeper.memory.registration) X (card_of e card))
      (subst (λ (es : List CardEvent). NotesOn failed (session_of run.keeper.cabin.cards card) (session_of new.keeper.cabin.cards card) es (card_of d card) (card_of e card)) (gap-there run (gap_of c.args.kept run.next) c.in-Some.span c.card_gap-event.result there told) (noted card));
  places =
      let run = c.args.run.now in
      let between : Run = c.note_in.new.run in
      let V = g.M.Medium.state c.note_event.new.unit in
      let d = devices V (g.C.Chip.state c.args.card_a.now) (g.D.Chip.state c.args.card_b.now) in
      let m = devices (g.M.Medium.state c.note_in.new.unit) (g.C.Chip.state c.note_in.new.card_a) (g.D.Chip.state c.note_in.new.card_b) in
      let e = devices (g.M.Medium.state c.note_in-2.new.unit) (g.C.Chip.state c.note_in-2.new.card_a) (g.D.Chip.state c.note_in-2.new.card_b) in
      let one = c.in_ok-note_in.ensures.noted.fell in
      λ card. unit-apart card (g.M.Medium.state c.args.unit.now) V (g.C.Chip.state c.args.card_a.now) (g.D.Chip.state c.args.card_b.now)
      (λ X. LeavesPlaces (session_of run.keeper.cabin.cards card) X (card_of e card))
      (leaves-then (session_of run.keeper.cabin.cards card) (session_of between.keeper.cabin.cards card) (card_of d card) (card_of m card) (card_of e card)
      (session-noted (card_in (seat_in run.keeper.cabin.slots.seats Driver)) Driver (now_moment run) run between c.args.breaks.now c.note_in.new.breaks one.0 one.1 card)
      (c.in_ok-note_in.ensures.leaves.places card) (c.note_in-2.ensures.leaves.places card));
  events =
      let run = c.args.run.now in
      let between : Run = c.note_in.new.run in
      let new : Run = c.note_in-2.new.run in
      let U = g.M.Medium.state c.args.unit.now in
      let V = g.M.Medium.state c.note_event.new.unit in
      let X = g.C.Chip.state c.args.card_a.now in
      let Y = g.D.Chip.state c.args.card_b.now in
      let E = devices (g.M.Medium.state c.note_in.new.unit) (g.C.Chip.state c.note_in.new.card_a) (g.D.Chip.state c.note_in.new.card_b) in
      let F = devices (g.M.Medium.state c.note_in-2.new.unit) (g.C.Chip.state c.note_in-2.new.card_a) (g.D.Chip.state c.note_in-2.new.card_b) in
      let span = c.in-Some.span in
      let there : gap_of c.args.kept run.next ≡ Some span = cc in
      let failed = is_err c.note_in-2.result in
      let same : c.card_gap-event.result ≡ gap_event span run = c.card_gap-event.ensures ∙ ap (λ (q : Crew). entry_of POWER_INTERRUPTION span.begin span.end q q) c.crew.ensures in
      let e = c.in_ok-note_event.ensures in
      let one = c.in_ok-note_in.ensures.leaves.events in
      let two = c.note_in-2.ensures.leaves.events in
      let next : between.next ≡ run.next = ap (λ (r : Run). r.next) c.in_ok-note_in.ensures.noted.run in
      let at : now_moment between ≡ now_moment run = ap (λ (n : ℕ). record { second = n; begun = 0; late = false }) next in
      let first = gap-noted run span c.card_gap-event.result same U V X Y X Y (g.met.M.Medium.coherent c.args.unit.now) (g.met.M.Medium.coherent c.note_event.new.unit) c.requires.acting.going.ready.unit_ready.is_unit false (λ well. e.noted) e.moments e.cause.works in
      let later : NotesEvents (fall_events two.fell run.next new) failed E F = subst (λ (n : ℕ). NotesEvents (fall_events two.fell n new) failed E F) next two.notes in
      let falls = then-noted (fall_events one.fell run.next between) (fall_events two.fell run.next new) failed (devices V X Y) E F one.notes later in
      let vs = gap_event span run ∷ (fall_events one.fell run.next between ++ fall_events two.fell run.next new) in (
        BothSlots one.fell two.fell,
        vs,
        subst (λ (o : Option Span). AreGapEvents o (now_moment run) failed run new c.args.breaks.now c.note_in-2.new.breaks (BothSlots one.fell two.fell) vs) (sym there) (
          record {
            between = between;
            told = c.note_in.new.breaks;
            first = one.noted;
            second = subst (λ (m : Moment). IsNotedIn (card_in (seat_in between.keeper.cabin.slots.seats CoDriver)) CoDriver m between new c.note_in.new.breaks c.note_in-2.new.breaks two.fell) at two.noted;
          },
          two.failing,
          refl,
        ),
        then-noted (gap_event span run ∷ []) (fall_events one.fell run.next between ++ fall_events two.fell run.next new) failed (devices U X Y) (devices V X Y) F first falls,
      );
  rings =
      let V = g.M.Medium.state c.note_event.new.unit in
      let W = g.M.Medium.state c.note_in.new.unit in
      rings-then (g.M.Medium.state c.args.unit.now) V (g.M.Medium.state c.note_in-2.new.unit)
      (event-leaves c.card_gap-event.result.kind (fault_bytes c.card_gap-event.result) (g.M.Medium.state c.args.unit.now) V (g.met.M.Medium.coherent c.args.unit.now) c.note_event.ensures.moments)
      (rings-then V W (g.M.Medium.state c.note_in-2.new.unit) c.in_ok-note_in.ensures.leaves.rings c.note_in-2.ensures.leaves.rings);
  beside =
      λ o done s out w power.
      let run = c.args.run.now in
      let lit = c.requires.acting.going in
      let U = g.M.Medium.state c.args.unit.now in
      let V = g.M.Medium.state c.note_event.new.unit in
      let X = g.C.Chip.state c.args.card_a.now in
      let Y = g.D.Chip.state c.args.card_b.now in
      let E = devices (g.M.Medium.state c.note_in.new.unit) (g.C.Chip.state c.note_in.new.card_a) (g.D.Chip.state c.note_in.new.card_b) in
      let F = devices (g.M.Medium.state c.note_in-2.new.unit) (g.C.Chip.state c.note_in-2.new.card_a) (g.D.Chip.state c.note_in-2.new.card_b) in
      let w1 = unit-recorded o done s 0 run (record out { breaks = c.args.breaks.now }) U V X Y (g.met.M.Medium.coherent c.args.unit.now) c.note_event.ensures.journal lit.span lit.stands lit.next w false c.in_ok-note_event.ensures.cause
      (λ fine. leaves-more (g.M.Medium.state c.args.unit.now) (g.M.Medium.state c.note_event.new.unit)
      (event-leaves c.card_gap-event.result.kind (fault_bytes c.card_gap-event.result) (g.M.Medium.state c.args.unit.now) (g.M.Medium.state c.note_event.new.unit) (g.met.M.Medium.coherent c.args.unit.now) c.note_event.ensures.moments)) in
      let one = unit-leaves o done s 0 run (record out { breaks = c.args.breaks.now }) U V X Y (g.met.M.Medium.coherent c.args.unit.now) c.note_event.ensures.journal lit.span lit.stands lit.next w s.actions ([], refl, refl) false c.in_ok-note_event.ensures.cause in
      let noted = c.in_ok-note_in.ensures.noted.fell in
      let first = c.in_ok-note_in.ensures.recorded o done s out w1.goes (λ begins. power) in
      let two = c.in_ok-note_in.ensures.leaves.beside o done s out w1.goes power in
      let comes = power-noted o done s run c.note_in.new.run out c.args.breaks.now c.note_in.new.breaks (devices V X Y) w1.goes (card_in (seat_in run.keeper.cabin.slots.seats Driver)) Driver noted.0 noted.1 power in
      let three = c.note_in-2.ensures.leaves.beside o done s out first.goes comes in (
        left-then o (devices U X Y) (devices V X Y) F one.0 (left-then o (devices V X Y) E F two.0 three.0),
        λ bad. subst (λ (b : Beginning). IsFailing o done s b.run (In 0) (log_of (record out { breaks = c.note_in-2.new.breaks })) (breakdowns_of F)) (first.began ∙ w1.began) (three.1 bad),
      );
}

pub returns-clause-promises : goal.returns-clause-promises
returns-clause-promises g c = record {
  recorded =
      λ o done s out w power.
      let run = c.args.run.now in
      let lit = c.requires.acting.going in
      let V = g.M.Medium.state c.note_event.new.unit in
      let X = g.C.Chip.state c.args.card_a.now in
      let Y = g.D.Chip.state c.args.card_b.now in
      let w1 = unit-recorded o done s 0 run (record out { breaks = c.args.breaks.now }) (g.M.Medium.state c.args.unit.now) V X Y (g.met.M.Medium.coherent c.args.unit.now) c.note_event.ensures.journal lit.span lit.stands lit.next w false c.in_ok-note_event.ensures.cause
      (λ fine. leaves-more (g.M.Medium.state c.args.unit.now) (g.M.Medium.state c.note_event.new.unit)
      (event-leaves c.card_gap-event.result.kind (fault_bytes c.card_gap-event.result) (g.M.Medium.state c.args.unit.now) (g.M.Medium.state c.note_event.new.unit) (g.met.M.Medium.coherent c.args.unit.now) c.note_event.ensures.moments)) in
      let F = devices (g.M.Medium.state c.note_in-2.new.unit) (g.C.Chip.state c.note_in-2.new.card_a) (g.D.Chip.state c.note_in-2.new.card_b) in
      let one = c.in_ok-note_in.ensures.noted.fell in
      let first = c.in_ok-note_in.ensures.recorded o done s out w1.goes power in
      subst (λ (b : Beginning). GoesOnOrFails (is_err c.note_in-2.result) o done s (In 0) [] c.note_in-2.new.run (record out { breaks = c.note_in-2.new.breaks }) F b) (first.began ∙ w1.began)
      (c.note_in-2.ensures.recorded o done s out first.goes
      (λ begins. power-noted o done s run c.note_in.new.run out c.args.breaks.now c.note_in.new.breaks (devices V X Y) w1.goes (card_in (seat_in run.keeper.cabin.slots.seats Driver)) Driver one.0 one.1 (power begins)));
  ringed =
      let run = c.args.run.now in
      let d : Devices = devices (g.M.Medium.state c.args.unit.now) (g.C.Chip.state c.args.card_a.now) (g.D.Chip.state c.args.card_b.now) in
      let e : Devices = devices (g.M.Medium.state c.note_in-2.new.unit) (g.C.Chip.state c.note_in-2.new.card_a) (g.D.Chip.state c.note_in-2.new.card_b) in
      note-ringed (gap_of c.args.kept run.next) (is_err c.note_in-2.result) run c.note_in-2.new.run c.args.breaks.now c.note_in-2.new.breaks d e ((returns-clause-noted g c).reach) ((returns-clause-leaves g c).rings) ((returns-clause-leaves g c).beside) ((returns-clause-leaves g c).places);
}

pub returns-clause-behind : goal.returns-clause-behind
returns-clause-behind g c = record {
  held =
      record {
        held = c.note_in-2.ensures.behind.held.held;
        cause = cause_after c.in_ok-note_event.ensures.cause (cause_after c.in_ok-note_in.ensures.behind.held.cause c.note_in-2.ensures.behind.held.cause);
      };
  going = first_of (search rules, grind (arith, common_steps));
}

pub returns-clause-goes : goal.returns-clause-goes
returns-clause-goes g c = record {
  later = later-then (devices (g.M.Medium.state c.args.unit.now) (g.C.Chip.state c.args.card_a.now) (g.D.Chip.state c.args.card_b.now)) (devices (g.M.Medium.state c.note_event.new.unit) (g.C.Chip.state c.args.card_a.now) (g.D.Chip.state c.args.card_b.now)) (devices (g.M.Medium.state c.note_in-2.new.unit) (g.C.Chip.state c.note_in-2.new.card_a) (g.D.Chip.state c.note_in-2.new.card_b)) (later-of-unit (g.M.Medium.state c.args.unit.now) (g.M.Medium.state c.note_event.new.unit) (g.C.Chip.state c.args.card_a.now) (g.D.Chip.state c.args.card_b.now) (state-by (g.M.Medium.state c.args.unit.now) (g.M.Medium.state c.note_event.new.unit) _ c.note_event.ensures.journal.later c.note_event.ensures.cause) (event-leaves-speeds c.card_gap-event.result.kind (fault_bytes c.card_gap-event.result) (g.M.Medium.state c.args.unit.now) (g.M.Medium.state c.note_event.new.unit) (g.met.M.Medium.coherent c.args.unit.now) c.note_event.ensures.moments)) (later-then (devices (g.M.Medium.state c.note_event.new.unit) (g.C.Chip.state c.args.card_a.now) (g.D.Chip.state c.args.card_b.now)) (devices (g.M.Medium.state c.note_in.new.unit) (g.C.Chip.state c.note_in.new.card_a) (g.D.Chip.state c.note_in.new.card_b)) (devices (g.M.Medium.state c.note_in-2.new.unit) (g.C.Chip.state c.note_in-2.new.card_a) (g.D.Chip.state c.note_in-2.new.card_b)) c.note_in.ensures.goes.later c.note_in-2.ensures.goes.later);
  calm = calm-then (devices (g.M.Medium.state c.args.unit.now) (g.C.Chip.state c.args.card_a.now) (g.D.Chip.state c.args.card_b.now)) (devices (g.M.Medium.state c.note_event.new.unit) (g.C.Chip.state c.args.card_a.now) (g.D.Chip.state c.args.card_b.now)) (devices (g.M.Medium.state c.note_in-2.new.unit) (g.C.Chip.state c.note_in-2.new.card_a) (g.D.Chip.state c.note_in-2.new.card_b)) (calm-of-unit (g.M.Medium.state c.args.unit.now) (g.M.Medium.state c.note_event.new.unit) (g.C.Chip.state c.args.card_a.now) (g.D.Chip.state c.args.card_b.now)) (calm-then (devices (g.M.Medium.state c.note_event.new.unit) (g.C.Chip.state c.args.card_a.now) (g.D.Chip.state c.args.card_b.now)) (devices (g.M.Medium.state c.note_in.new.unit) (g.C.Chip.state c.note_in.new.card_a) (g.D.Chip.state c.note_in.new.card_b)) (devices (g.M.Medium.state c.note_in-2.new.unit) (g.C.Chip.state c.note_in-2.new.card_a) (g.D.Chip.state c.note_in-2.new.card_b)) c.note_in.ensures.goes.calm c.note_in-2.ensures.goes.calm);
  more = (let a = c.note_in.ensures.goes.more in let b = c.note_in-2.ensures.goes.more in omega (arith, a, b));
  most =
      let one = c.in_ok-note_event.ensures.most in
      let next = c.in_ok-note_in.ensures.goes.most in
      let last = c.note_in-2.ensures.goes.most in
      record {
        unit = (let a = next.unit in let b = last.unit in omega (arith, one, a, b));
        card_a = (let a = next.card_a in let b = last.card_a in omega (arith, a, b));
        card_b = (let a = next.card_b in let b = last.card_b in omega (arith, a, b));
      };
}

pub note_in-requires-2-clause-power : goal.note_in-requires-2-clause-power
note_in-requires-2-clause-power g c = record {
  lit = first_of (search rules, grind (arith, common_steps));
  low = first_of (search rules, grind (arith, common_steps));
  held = c.in_ok-note_in.ensures.behind.held.held;
  going = c.in_ok-note_in.ensures.behind.going;
}

pub note_in-requires-clause-gap : goal.note_in-requires-clause-gap
note_in-requires-clause-gap g c = record {
  kind = first_of (search rules, grind (arith, common_steps));
  begin = first_of (search rules, grind (arith, common_steps));
}
