use Rattle.std.proofs.lemmas.Grind.{common_steps}
use Rattle.std.proofs.Common.{arith, rules, ◌≡◌, ◌∙◌, inl, ℕ, Bool, true, false, Option, Some, None, refl, ap, sym, subst}
use Rattle.std.specs.Prelude.{not, Ok, is_err, IfSome, [], ◌∷◌, ◌/◌, ◌≤◌}
use Rattle.tach_media.specs.Medium.{HasCause, LeavesOnly}
use Rattle.tach_media.proofs.Runs.{weaken, ok_gives}
use Rattle.run_crew.specs.declared.cards.Known.{Known}
use Rattle.run_crew.specs.declared.cards.Cards.{Cards}
use Rattle.run_crew.specs.declared.cabin.Cabin.{Cabin}
use Rattle.run_crew.specs.Cards.{known_of, session_of, with_session}
use Rattle.run_crew.specs.Cabin.{CabinIsSound, torn_out, crew_of}
use Rattle.run_minutes.specs.declared.keeper.Keeper.{Keeper}
use Rattle.run_minutes.specs.declared.keeper.Moment.{Moment}
use Rattle.run_minutes.specs.Keeping.{CardMayBeCalled, HasItsRow, tear_of, with_lines, fault_of}
use Rattle.run_minutes.proofs.Sessions.{number-set, row-set, torn-stands}
use Rattle.run_minutes.proofs.Units.{has-row}
use Rattle.run_minutes.proofs.CardBooked.{no-session, none-there, session-set}
use Rattle.run_minutes.proofs.Fates.{no-lines}
use Rattle.run_acts.proofs.Apart.{not-both, session-back, torn-apart, noted-sizes, ready-again, session-works, fell-broken, well-broken}
use Rattle.unit_notes.specs.event_model.declared.kinds.TheConstants.{CARD_FAULT}
use Rattle.run_minutes.specs.unit_memory.declared.format.Identity.{Identity}
use Rattle.unit_notes.specs.Noting.{IsEventNoted, IsNotingEvent}
use Rattle.run_events.specs.Entries.{entry_of, card_entry}
use Rattle.run_minutes.specs.run_promise.Between.{devices}
use Rattle.run_acts.proofs.NotedEvents.{one-noted, same-noted, noted-any}
use Rattle.run_events.proofs.run_rings.Same.{rings-left, rings-moments, table-outside}
use Rattle.run_events.proofs.run_speeds.Leaving.{leaves-none}
use Rattle.run_events.proofs.NoteSpeeds.{event-leaves-speeds}
use Rattle.card_files.specs.declared.card_event.CardEvent.{CardEvent}
use Rattle.card_files.specs.Noting as on
use Rattle.run_crew.specs.declared.cards.Accepted.{Accepted}
use Rattle.run_insertion.specs.CardEvents.{NotesOnCard}
use Rattle.run_acts.specs.CardNotes.{NotesOn}
use Rattle.run_acts.proofs.CardNotes.{plain-gap, entry-is, noted-well, noted-cut, on-session}
use Rattle.run_acts.proofs.CardPlaces.{event-leaves}
use Rattle.run_acts.specs.Acting.{IsNotedOn, now_moment}
use Rattle.run_acts.specs.Power.{with_cabin}
use Rattle.run_acts.proofs.gap.note_on.Given.{Over}
use Rattle.run_acts.proofs.gap.note_on.Goals.{After-tear, After-set_session}
use Rattle.run_acts.proofs.gap.note_on.Goals as goal

pub note_event_on-requires-clause-port : goal.note_event_on-requires-clause-port
note_event_on-requires-clause-port g c =
    let is : (known_of c.args.run.now.keeper.cabin.cards c.args.which).sizes ≡ Ok c.in-Ok.app = cc in
    c.requires.may.card.port c.in-Ok.app is

-- ---- it has a session, and so sizes

pub returns-in_default : goal.returns-in_default
returns-in_default g c =
    let cards = c.args.run.now.keeper.cabin.cards in
    let gone = no-session c.args.which cards (g.C.Chip.card c.args.card.now) (g.C.Chip.state c.args.card.now) c.requires.may.card (λ app is. c.in_default.not-Ok app (ap (λ (q : Known). q.sizes) c.of.ensures ∙ is)) in
    absurd (not-both (session_of cards c.args.which) c.requires.may.session gone)

pub returns-in_default-take : goal.returns-in_default-take
returns-in_default-take g c =
    let cards = c.args.run.now.keeper.cabin.cards in
    let gone : session_of cards c.args.which ≡ None = sym c.take.ensures.taken ∙ none-there c.take.result c.in_default-take.not-Some in
    absurd (not-both (session_of cards c.args.which) c.requires.may.session gone)

-- ---- the call failed, and the card was torn out

module _ (g : Over) (c : After-tear g) where
  sizes-fell : (known_of c.args.run.now.keeper.cabin.cards c.args.which).sizes ≡ Ok c.in-Ok.app
  sizes-fell = cc

  cabin-fell : c.tear.new.self.cabin ≡ torn_out c.args.which c.moment-at.result.second c.args.run.now.keeper.cabin
  cabin-fell = ap (λ (k : Keeper). k.cabin) c.tear.ensures.torn.keeper ∙ torn-apart c.args.which c.moment-at.result.second c.args.run.now.keeper.cabin c.take.new.self c.take.ensures.left

  cause-bad : HasCause (g.C.Chip.state c.args.card.now) (g.C.Chip.state c.note_event_on.new.card) true
  cause-bad = subst (λ (b : Bool). HasCause (g.C.Chip.state c.args.card.now) (g.C.Chip.state c.note_event_on.new.card) b) (sym c.is_err.ensures.value ∙ c.if-is_err.true) c.note_event_on.ensures.card.cause

  noted-fell : IsNotedOn c.args.which c.args.gap.slot (now_moment c.args.run.now) c.args.run.now (record c.args.run.now { keeper = c.tear.new.self }) c.args.breaks.now c.tear.new.breaks true
  noted-fell = record {
    run = ap (λ (k : Keeper). record c.args.run.now { keeper = k })
        (subst (λ (m : Moment). c.tear.new.self ≡ record c.args.run.now.keeper { cabin = torn_out c.args.which m.second c.args.run.now.keeper.cabin }) c.moment-at.ensures (c.tear.ensures.torn.keeper ∙ ap (λ (b : Cabin). record c.args.run.now.keeper { cabin = b }) (torn-apart c.args.which c.moment-at.result.second c.args.run.now.keeper.cabin c.take.new.self c.take.ensures.left)));
    told = subst (λ (m : Moment). c.tear.new.breaks ≡ with_lines (tear_of c.args.gap.slot m ∷ []) c.args.breaks.now) c.moment-at.ensures c.tear.ensures.torn.told;
  }

-- ---- it is noted, and the session given back

module _ (g : Over) (c : After-set_session g) where
  sizes-back : (known_of c.args.run.now.keeper.cabin.cards c.args.which).sizes ≡ Ok c.in-Ok.app
  sizes-back = cc

  cards-back : c.set_session.new.self ≡ c.args.run.now.keeper.cabin.cards
  cards-back = c.set_session.ensures ∙ ap (λ (q : Cards). with_session c.args.which (Some c.in-Some.accepted) q) c.take.ensures.left ∙ session-back c.args.which c.in-Some.accepted c.args.run.now.keeper.cabin.cards (sym c.in-Some.ensures.taken)

  went-well : is_err c.note_event_on.result ≡ false
  went-well = sym c.is_err.ensures.value ∙ c.if-is_err.false

  cause-well : HasCause (g.C.Chip.state c.args.card.now) (g.C.Chip.state c.note_event_on.new.card) false
  cause-well = subst (λ (b : Bool). HasCause (g.C.Chip.state c.args.card.now) (g.C.Chip.state c.note_event_on.new.card) b) went-well c.note_event_on.ensures.card.cause

  noted-whole : IsNotedOn c.args.which c.args.gap.slot (now_moment c.args.run.now) c.args.run.now (with_cabin (record c.args.run.now.keeper.cabin { cards = c.set_session.new.self }) c.args.run.now) c.args.breaks.now c.args.breaks.now false
  noted-whole = record { run = ap (λ (q : Cards). with_cabin (record c.args.run.now.keeper.cabin { cards = q }) c.args.run.now) cards-back; told = no-lines c.args.breaks.now }

-- ---- so it is either way

pub returns-then-is_err : goal.returns-then-is_err
returns-then-is_err g c = record {
  noted =
      let run = c.args.run.now in
      let X = g.C.Chip.state c.args.card.now in
      let Y = g.C.Chip.state c.note_event_on.new.card in
      let cause = cause-bad g c in (
        true,
        noted-fell g c,
        fell-broken X Y (session-works c.args.which run.keeper.cabin.cards (g.C.Chip.card c.args.card.now) X c.requires.may.card c.requires.may.session) cause,
        cause,
        λ _. refl,
      );
  shows = record {
    card_events =
        let run = c.args.run.now in
        let cards = run.keeper.cabin.cards in
        let X = g.C.Chip.state c.args.card.now in
        let Y = g.C.Chip.state c.note_event_on.new.card in
        let sizes = sizes-fell g c in
        let event : CardEvent = card_entry c.args.gap.event run.keeper.memory.registration in
        let same = entry-is c.args.gap.event c.on_card-noted.result c.identity.result run.keeper.memory c.on_card-noted.ensures (ap (λ (i : Identity). i.registration) c.identity.ensures) in
        let cabin = cabin-fell g c in
        let gone : session_of c.tear.new.self.cabin.cards c.args.which ≡ None = ap (λ (b : Cabin). session_of b.cards c.args.which) cabin ∙ session-set c.args.which None cards in
        let moments = subst (λ (v : CardEvent). LeavesOnly X Y (on.IsNotingEvent c.in-Ok.app v)) same c.note_event_on.ensures.note.moments in
        subst (λ (o : Option Accepted). NotesOn false (session_of cards c.args.which) o (event ∷ []) X Y) (sym gone)
        (on-session c.args.which cards c.in-Ok.app (g.C.Chip.card c.args.card.now) X Y None (event ∷ []) c.requires.may.card sizes c.requires.may.session
        (noted-cut c.in-Ok.app event (plain-gap event c.requires.gap.kind) X Y (g.met.C.Chip.coherent c.args.card.now) moments));
    places =
        let cards = c.args.run.now.keeper.cabin.cards in
        let sizes = sizes-fell g c in
        event-leaves c.args.which cards c.in-Ok.app c.on_card-noted.result (g.C.Chip.card c.args.card.now) (g.C.Chip.state c.args.card.now) (g.C.Chip.state c.note_event_on.new.card) (g.met.C.Chip.coherent c.args.card.now) c.requires.may.card sizes c.requires.may.session c.note_event_on.ensures.note.moments;
    events =
        let run = c.args.run.now in
        let U = g.M.Medium.state c.args.unit.now in
        let V = g.M.Medium.state c.tear.new.unit in
        let X = g.C.Chip.state c.args.card.now in
        let Y = g.C.Chip.state c.note_event_on.new.card in
        let crew = crew_of c.tear.new.self.cabin in
        let second : c.moment-at.result.second ≡ run.next = ap (λ (m : Moment). m.second) c.moment-at.ensures in
        record {
          fell = true;
          noted = noted-fell g c;
          failing = λ _. refl;
          notes = one-noted U V X X Y Y (g.met.M.Medium.coherent c.args.unit.now) (g.met.M.Medium.coherent c.tear.new.unit) c.requires.may.ready.is_unit (entry_of CARD_FAULT run.next run.next crew crew) (is_err c.tear.result)
              (λ well. subst (λ (n : ℕ). IfSome U.image (λ x. IfSome V.image (IsEventNoted CARD_FAULT (fault_of n crew) x))) second (ok_gives c.tear.result c.tear.ensures.leaves.noted well))
              (subst (λ (n : ℕ). LeavesOnly U V (IsNotingEvent CARD_FAULT (fault_of n crew))) second c.tear.ensures.leaves.moments) c.tear.ensures.behind.cause.works;
        };
    rings =
        rings-moments (g.M.Medium.state c.args.unit.now) (g.M.Medium.state c.tear.new.unit) (IsNotingEvent CARD_FAULT (fault_of c.moment-at.result.second (crew_of c.tear.new.self.cabin))) (g.met.M.Medium.coherent c.args.unit.now) c.tear.ensures.leaves.moments
        (λ x n moment. table-outside CARD_FAULT x n moment.outside);
  };
  writes = record {
    speeds = event-leaves-speeds CARD_FAULT (fault_of c.moment-at.result.second (crew_of c.tear.new.self.cabin)) (g.M.Medium.state c.args.unit.now) (g.M.Medium.state c.tear.new.unit) (g.met.M.Medium.coherent c.args.unit.now) c.tear.ensures.leaves.moments;
    journal = first_of (search rules, grind (arith, common_steps));
  };
  known = record {
    moments =
        let cards = c.args.run.now.keeper.cabin.cards in
        let is = sizes-fell g c in
        noted-sizes c.args.which cards c.in-Ok.app (g.C.Chip.card c.args.card.now) (g.C.Chip.state c.args.card.now) (g.C.Chip.state c.note_event_on.new.card) c.requires.may.card is (weaken c.note_event_on.ensures.note.moments (λ x n told note. inl (c.on_card-noted.result, note)));
    value = first_of (search rules, grind (arith, common_steps));
  };
  behind = record {
    unit = first_of (search rules, grind (arith, common_steps));
    ready = first_of (search rules, grind (arith, common_steps));
    rows =
        λ card h.
        let cards = c.args.run.now.keeper.cabin.cards in
        c.tear.ensures.behind.rows card (has-row cards c.take.new.self (g.M.Medium.state c.args.unit.now) (g.M.Medium.state c.args.unit.now) card
        (ap (λ (q : Cards). (known_of q card).number) c.take.ensures.left ∙ number-set c.args.which card None cards)
        (ap (λ (q : Cards). (known_of q card).row) c.take.ensures.left ∙ row-set c.args.which card None cards) (λ r n at. at) h);
    card = first_of (search rules, grind (arith, common_steps));
    size = first_of (search rules, grind (arith, common_steps));
    cause = first_of (search rules, grind (arith, common_steps));
  };
  stands = λ from leaving h.
      let run = c.args.run.now in
      let at = c.moment-at.ensures in
      let cabin = cabin-fell g c in
      subst (λ (b : Cabin). CabinIsSound from leaving b) (sym cabin)
      (torn-stands run.keeper.cabin c.args.which c.moment-at.result.second from leaving (subst (λ (m : Moment). run.keeper.cabin.slots.minute ≤ m.second / 60) (sym at) c.requires.may.minute) h);
  clock_card = first_of (search rules, grind (arith, common_steps));
  most = (c.tear.ensures.most, c.note_event_on.ensures.most);
}

pub returns : goal.returns
returns g c = record {
  noted =
      let X = g.C.Chip.state c.args.card.now in
      let Y = g.C.Chip.state c.note_event_on.new.card in
      let cause = cause-well g c in (
        false,
        noted-whole g c,
        well-broken X Y cause,
        cause,
        λ bad. bad,
      );
  shows = record {
    card_events =
        let run = c.args.run.now in
        let before = run.keeper.cabin.cards in
        let X = g.C.Chip.state c.args.card.now in
        let Y = g.C.Chip.state c.note_event_on.new.card in
        let sizes = sizes-back g c in
        let event : CardEvent = card_entry c.args.gap.event run.keeper.memory.registration in
        let same = entry-is c.args.gap.event c.on_card-noted.result c.identity.result run.keeper.memory c.on_card-noted.ensures (ap (λ (i : Identity). i.registration) c.identity.ensures) in
        let cause = cause-well g c in
        let cards = cards-back g c in
        let moments = subst (λ (v : CardEvent). LeavesOnly X Y (on.IsNotingEvent c.in-Ok.app v)) same c.note_event_on.ensures.note.moments in
        let noted = subst (λ (v : CardEvent). IfSome X.image (λ x. IfSome Y.image (on.IsEventNoted c.in-Ok.app v x))) same (ok_gives c.note_event_on.result c.note_event_on.ensures.note.noted (went-well g c)) in
        let works = session-works c.args.which before (g.C.Chip.card c.args.card.now) X c.requires.may.card c.requires.may.session in
        subst (λ (q : Cards). NotesOn false (session_of before c.args.which) (session_of q c.args.which) (event ∷ []) X Y) (sym cards)
        (on-session c.args.which before c.in-Ok.app (g.C.Chip.card c.args.card.now) X Y (session_of before c.args.which) (event ∷ []) c.requires.may.card sizes c.requires.may.session
        (subst (λ (b : Bool). NotesOnCard c.in-Ok.app (event ∷ []) (not b) X Y) (sym c.requires.may.session)
        (noted-well c.in-Ok.app event (plain-gap event c.requires.gap.kind) X Y (g.met.C.Chip.coherent c.args.card.now) (g.met.C.Chip.coherent c.note_event_on.new.card) works cause.works moments noted)));
    places =
        let cards = c.args.run.now.keeper.cabin.cards in
        let sizes = sizes-back g c in
        event-leaves c.args.which cards c.in-Ok.app c.on_card-noted.result (g.C.Chip.card c.args.card.now) (g.C.Chip.state c.args.card.now) (g.C.Chip.state c.note_event_on.new.card) (g.met.C.Chip.coherent c.args.card.now) c.requires.may.card sizes c.requires.may.session c.note_event_on.ensures.note.moments;
    events =
        let X = g.C.Chip.state c.args.card.now in
        let Y = g.C.Chip.state c.note_event_on.new.card in
        let U = g.M.Medium.state c.args.unit.now in
        record {
          fell = false;
          noted = noted-whole g c;
          failing = λ bad. bad;
          notes = noted-any [] false (devices U X X) (devices U X X) (devices U X X) (devices U Y Y) refl refl (same-noted U X X);
        };
    rings = rings-left (g.M.Medium.state c.args.unit.now);
  };
  writes = record {
    speeds = leaves-none (g.M.Medium.state c.args.unit.now);
    journal = first_of (search rules, grind (arith, common_steps));
  };
  known = record {
    moments =
        let cards = c.args.run.now.keeper.cabin.cards in
        let is = sizes-back g c in
        noted-sizes c.args.which cards c.in-Ok.app (g.C.Chip.card c.args.card.now) (g.C.Chip.state c.args.card.now) (g.C.Chip.state c.note_event_on.new.card) c.requires.may.card is (weaken c.note_event_on.ensures.note.moments (λ x n told note. inl (c.on_card-noted.result, note)));
    value = first_of (search rules, grind (arith, common_steps));
  };
  behind = record {
    unit = first_of (search rules, grind (arith, common_steps));
    ready = first_of (search rules, grind (arith, common_steps));
    rows =
        λ card h.
        let cards = cards-back g c in
        subst (λ (q : Cards). HasItsRow q (g.M.Medium.state c.args.unit.now) card) (sym cards) h;
    card =
        let run = c.args.run.now in
        let next = g.C.Chip.card c.note_event_on.new.card in
        let X = g.C.Chip.state c.args.card.now in
        let Y = g.C.Chip.state c.note_event_on.new.card in
        let cause = cause-well g c in
        let is = sizes-back g c in
        let cards = cards-back g c in
        subst (λ (q : Cards). CardMayBeCalled (known_of q c.args.which) next Y) (sym cards)
        (ready-again (known_of run.keeper.cabin.cards c.args.which) c.in-Ok.app (g.C.Chip.card c.args.card.now) next X Y c.requires.may.card is c.note_event_on.ensures.card.port cause.works);
    size = first_of (search rules, grind (arith, common_steps));
    cause = first_of (search rules, grind (arith, common_steps));
  };
  stands = λ from leaving h.
      let run = c.args.run.now in
      let cards = cards-back g c in
      subst (λ (q : Cards). CabinIsSound from leaving (record run.keeper.cabin { cards = q })) (sym cards) h;
  clock_card = first_of (search rules, grind (arith, common_steps));
  most = (omega arith, c.note_event_on.ensures.most);
}

pub tear-requires-clause-may : goal.tear-requires-clause-may
tear-requires-clause-may g c = record {
  minute = first_of (search rules, grind (arith, common_steps));
  second = first_of (search rules, grind (arith, common_steps));
  room = first_of (search rules, grind (arith, common_steps));
}
