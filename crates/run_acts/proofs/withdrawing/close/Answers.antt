use Rattle.std.proofs.lemmas.Grind.{common_steps}
use Rattle.std.proofs.Common.{rules, ◌≡◌, ◌∙◌, ◌+◌, ◌≤◌, true, false, Option, Some, None, Ok, refl, ap, sym, subst, arith}
use Rattle.std.specs.Prelude.{not, is_err, IfSome}
use Rattle.card_files.specs.card_layout.declared.files.Application.{Application}
use Rattle.device_calls.specs.card_commands.Ports.{IsPort}
use Rattle.activity_codec.specs.declared.values.Activity.{Activity}
use Rattle.device_calls.specs.card_session.Sessions.{IsSession}
use Rattle.activity_codec.specs.Activity.{activity_of}
use Rattle.device_calls.specs.card_session.Cards.{IsCardClosing}
use Rattle.tach_media.specs.Medium.{LeavesOnly, broken_by}
use Rattle.tach_media.proofs.Runs.{on_ok, ok_gives}
use Rattle.tach_media.proofs.Breakdowns.{none_broken, call_broken, fewer_broken}
use Rattle.run_crew.specs.declared.cards.Known.{Known}
use Rattle.run_crew.specs.declared.cards.Accepted.{Accepted}
use Rattle.run_crew.specs.declared.cards.Cards.{Cards}
use Rattle.run_crew.specs.declared.cabin.Cabin.{Cabin}
use Rattle.run_crew.specs.Cards.{known_of, session_of, with_session}
use Rattle.run_crew.specs.Cabin.{torn_out, crew_of}
use Rattle.run_minutes.specs.declared.keeper.Keeper.{Keeper}
use Rattle.run_minutes.specs.Keeping.{CardMayBeCalled, HasItsRow, fault_of}
use Rattle.run_minutes.proofs.Sessions.{number-set, row-set}
use Rattle.run_minutes.proofs.Units.{has-row, row-beside}
use Rattle.run_insertion.proofs.Noted.{noted-ready, noted-row}
use Rattle.run_minutes.proofs.CardDeeds.{closed-alone}
use Rattle.run_acts.specs.Stays.{ClosesOnCard}
use Rattle.run_acts.specs.Acting.{Fell, IsClosingOf, Bare, Closed, IsClosed}
use Rattle.run_acts.proofs.Cabins.{session-known, twice-ready}
use Rattle.unit_notes.specs.event_model.declared.kinds.TheConstants.{CARD_FAULT}
use Rattle.run_events.specs.Entries.{entry_of}
use Rattle.run_minutes.proofs.CardBooked.{none-there, no-session}
use Rattle.run_minutes.proofs.Fates.{no-lines}
use Rattle.run_acts.proofs.NotedEvents.{one-noted, same-noted}
use Rattle.run_acts.proofs.ActsNoted.{quiet-any}
use Rattle.unit_notes.specs.Noting.{IsNotingEvent}
use Rattle.run_events.proofs.run_rings.Same.{rings-left, rings-moments, table-outside}
use Rattle.run_acts.specs.Ringing.{ClosesRings}
use Rattle.run_minutes.proofs.Later.{state-same, state-by}
use Rattle.run_acts.specs.CardWrites.{ClosesCard}
use Rattle.run_acts.proofs.CardWrites.{closes-well}
use Rattle.run_outcome.specs.Lines.{Listed}
use Rattle.log_model.specs.declared.lines.Break.{Break}
use Rattle.run_minutes.proofs.Calm.{card-beside, card-fell, card-rests}
use Rattle.run_acts.specs.Power.{with_cabin}
use Rattle.run_events.proofs.run_speeds.Leaving.{leaves-none}
use Rattle.run_events.proofs.NoteSpeeds.{event-leaves-speeds}
use Rattle.run_acts.proofs.withdrawing.close.Given.{Over}
use Rattle.run_acts.proofs.withdrawing.close.Goals.{In_default, In_default-sizes, After-note_withdrawal, After-tear}
use Rattle.run_acts.proofs.withdrawing.close.Goals as goal

-- ---- how its session was closed

module _ (g : Over) (c : In_default g) where
  none-had : session_of c.args.run.now.keeper.cabin.cards c.args.which ≡ None
  none-had = sym c.close.ensures.session ∙ none-there c.close.result c.in_default.not-Some

  closed-bare : IsClosed c.args.which c.args.withdrawal.slot c.args.withdrawal.at c.args.run.now (with_cabin c.close.new.self c.args.run.now) c.args.breaks.now c.args.breaks.now Bare
  closed-bare = record {
    is = subst (λ (o : Option Accepted). IsClosingOf o Bare) (sym none-had) tt;
    run = ap (λ (b : Cabin). with_cabin b c.args.run.now) c.close.ensures.kept;
    told = no-lines c.args.breaks.now;
  }

-- a card with a session has told its sizes
module _ (g : Over) (c : In_default-sizes g) where
  unsized : ⊥
  unsized =
      let cards = c.args.run.now.keeper.cabin.cards in
      let some : session_of cards c.args.which ≡ Some c.in-Some.accepted = sym c.in-Some.ensures.session in
      let gone = no-session c.args.which cards (g.C.Chip.card c.args.card.now) (g.C.Chip.state c.args.card.now) c.requires.may.card (λ app is. c.in_default-sizes.not-Ok app (ap (λ (q : Known). q.sizes) c.of.ensures ∙ is)) in
      let bad : Some c.in-Some.accepted ≡ None = sym some ∙ gone in
      cc

module _ (g : Over) (c : After-note_withdrawal g) where
  closed-well : IsClosed c.args.which c.args.withdrawal.slot c.args.withdrawal.at c.args.run.now (with_cabin c.close.new.self c.args.run.now) c.args.breaks.now c.args.breaks.now Closed
  closed-well = record {
    is = subst (λ (o : Option Accepted). IsClosingOf o Closed) c.in-Some.ensures.session tt;
    run = ap (λ (b : Cabin). with_cabin b c.args.run.now) c.close.ensures.kept;
    told = no-lines c.args.breaks.now;
  }

module _ (g : Over) (c : After-tear g) where
  closed-fell : IsClosed c.args.which c.args.withdrawal.slot c.args.withdrawal.at c.args.run.now (record c.args.run.now { keeper = c.tear.new.self }) c.args.breaks.now c.tear.new.breaks Fell
  closed-fell = record {
    is = subst (λ (o : Option Accepted). IsClosingOf o Fell) c.in-Some.ensures.session tt;
    run = ap (λ (k : Keeper). record c.args.run.now { keeper = k }) (c.tear.ensures.torn.keeper ∙ ap (λ (b : Cabin). record c.args.run.now.keeper { cabin = torn_out c.args.which c.args.withdrawal.at.second b }) c.close.ensures.kept);
    told = c.tear.ensures.torn.told;
  }

-- it has no session
pub returns-in_default-clause-closes : goal.returns-in_default-clause-closes
returns-in_default-clause-closes g c = record {
  closed =
      let run = c.args.run.now in
      let none : session_of run.keeper.cabin.cards c.args.which ≡ None = sym c.close.ensures.session ∙ none-there c.close.result c.in_default.not-Some in (
        Bare,
        closed-bare g c,
        none_broken (g.C.Chip.state c.args.card.now),
        λ is. absurd (cc),
      );
  shows = record {
    events =
        let U = g.M.Medium.state c.args.unit.now in
        let X = g.C.Chip.state c.args.card.now in
        record {
          closing = Bare;
          closed = closed-bare g c;
          notes = same-noted U X X;
        };
    rings =
        λ tells.
        record {
          closing = Bare;
          closed = closed-bare g c;
          rings = rings-left (g.M.Medium.state c.args.unit.now);
        };
    left = first_of (search rules, grind (arith, common_steps));
    shut =
        record {
          closing = Bare;
          closed = closed-bare g c;
          act = activity_of c.selected-selected.result;
          selected = c.selected-selected.ensures;
          closes = tt;
        };
  };
  writes = record {
    speeds = leaves-none (g.M.Medium.state c.args.unit.now);
    journal = first_of (search rules, grind (arith, common_steps));
  };
  behind = record {
    unit = first_of (search rules, grind (arith, common_steps));
    ready = first_of (search rules, grind (arith, common_steps));
    rows =
        λ card h.
        let U = g.M.Medium.state c.args.unit.now in
        subst (λ (b : Cabin). HasItsRow b.cards U card) (sym c.close.ensures.kept) (row-beside c.args.which None c.args.run.now.keeper.cabin.cards U card h);
    card = first_of (search rules, grind (arith, common_steps));
    size = first_of (search rules, grind (arith, common_steps));
    cause = first_of (search rules, grind (arith, common_steps));
  };
  stands = λ from h. c.close.ensures.stands from h;
  most = (omega arith, omega arith);
  goes = record {
    later = state-same (g.C.Chip.state c.args.card.now);
    calm = card-beside (g.C.Chip.state c.args.card.now) (omega arith);
  };
}

-- a card with a session has told its sizes
pub returns-in_default-sizes-clause-closes : goal.returns-in_default-sizes-clause-closes
returns-in_default-sizes-clause-closes g c = record {
  closed = absurd (unsized g c);
  shows = record {
    events = absurd (unsized g c);
    rings = λ tells. absurd (unsized g c);
    left = first_of (search rules, grind (arith, common_steps));
    shut = absurd (unsized g c);
  };
  writes = record {
    speeds = leaves-none (g.M.Medium.state c.args.unit.now);
    journal = first_of (search rules, grind (arith, common_steps));
  };
  behind = record {
    unit = first_of (search rules, grind (arith, common_steps));
    ready = first_of (search rules, grind (arith, common_steps));
    rows =
        λ card h.
        let U = g.M.Medium.state c.args.unit.now in
        subst (λ (b : Cabin). HasItsRow b.cards U card) (sym c.close.ensures.kept) (row-beside c.args.which None c.args.run.now.keeper.cabin.cards U card h);
    card = first_of (search rules, grind (arith, common_steps));
    size = first_of (search rules, grind (arith, common_steps));
    cause = first_of (search rules, grind (arith, common_steps));
  };
  stands = λ from h. c.close.ensures.stands from h;
  most = (omega arith, omega arith);
  goes = record {
    later = state-same (g.C.Chip.state c.args.card.now);
    calm = card-beside (g.C.Chip.state c.args.card.now) (omega arith);
  };
}

-- it is closed
pub returns-in-Ok-leave-clause-closes : goal.returns-in-Ok-leave-clause-closes
returns-in-Ok-leave-clause-closes g c = record {
  closed =
      let run = c.args.run.now in
      let X = g.C.Chip.state c.args.card.now in
      let Y = g.C.Chip.state c.leave.new.card in
      let act : Activity = activity_of c.selected-selected.result in
      let none : 0 ≤ 0 + broken_by X.works false = omega arith in
      let some : session_of run.keeper.cabin.cards c.args.which ≡ Some c.in-Some.accepted = sym c.in-Some.ensures.session in (
        Closed,
        closed-well g c,
        fewer_broken none (call_broken false (none_broken X) c.in-Ok-leave.ensures.card.cause),
        λ is. subst (λ (o : Option Accepted). ClosesOnCard c.args.withdrawal.slot run.minutes o X Y) (sym some)
            (act, c.selected-selected.ensures, closed-alone c.in-Some.accepted.session act X Y (g.met.C.Chip.coherent c.leave.new.card) c.in-Ok-leave.ensures.card.cause.works c.leave.ensures.closes.moments.tells c.in-Ok-leave.ensures.closes.closed),
      );
  shows = record {
    events =
        let U = g.M.Medium.state c.args.unit.now in
        let V = g.M.Medium.state c.note_withdrawal.new.unit in
        let X = g.C.Chip.state c.args.card.now in
        let Y = g.C.Chip.state c.leave.new.card in
        record {
          closing = Closed;
          closed = closed-well g c;
          notes = quiet-any U V X X Y Y (is_err c.note_withdrawal.result) c.note_withdrawal.ensures.quiet;
        };
    rings =
        λ tells.
        let run = c.args.run.now in
        let which = c.args.which in
        let U = g.M.Medium.state c.args.unit.now in
        let V = g.M.Medium.state c.note_withdrawal.new.unit in
        let some : session_of run.keeper.cabin.cards which ≡ Some c.in-Some.accepted = sym c.in-Some.ensures.session in
        record {
          closing = Closed;
          closed = closed-well g c;
          rings = subst (λ (o : Option Accepted). ClosesRings Closed o c.args.withdrawal.at (is_err c.note_withdrawal.result) run U V) (sym some) (c.note_withdrawal.ensures.rings tells);
        };
    left =
        subst (λ (o : Option Accepted). IfSome o (λ s. (act : Activity) × LeavesOnly (g.C.Chip.state c.args.card.now) (g.C.Chip.state c.leave.new.card) (λ x n. IsSession s.session x → IsCardClosing s.session act x n))) c.in-Some.ensures.session
        (activity_of c.selected-selected.result, c.leave.ensures.closes.moments);
    shut =
        let run = c.args.run.now in
        let X = g.C.Chip.state c.args.card.now in
        let Y = g.C.Chip.state c.leave.new.card in
        let some : session_of run.keeper.cabin.cards c.args.which ≡ Some c.in-Some.accepted = sym c.in-Some.ensures.session in
        let works : X.works ≡ true = subst (λ (o : Option Accepted). IfSome o (λ a. X.works ≡ true)) (sym (session-known run.keeper.cabin.cards c.args.which) ∙ some) c.requires.may.card.works in
        let act : Activity = activity_of c.selected-selected.result in
        record {
          closing = Closed;
          closed = closed-well g c;
          act = act;
          selected = c.selected-selected.ensures;
          closes = subst (λ (o : Option Accepted). ClosesCard Closed o act X Y) (sym some)
              (closes-well c.in-Some.accepted act X Y (λ x n. IsSession c.in-Some.accepted.session x → IsCardClosing c.in-Some.accepted.session act x n) (g.met.C.Chip.coherent c.args.card.now) (g.met.C.Chip.coherent c.leave.new.card) works c.in-Ok-leave.ensures.card.cause.works c.leave.ensures.closes.moments c.in-Ok-leave.ensures.closes.closed);
        };
  };
  writes = record {
    speeds = c.note_withdrawal.ensures.speeds;
    journal = first_of (search rules, grind (arith, common_steps));
  };
  behind = record {
    unit = first_of (search rules, grind (arith, common_steps));
    ready =
        on_ok c.note_withdrawal.result (λ well.
        let k : Keeper = record c.args.run.now.keeper { cabin = c.close.new.self } in
        let r = c.requires.ready in
        noted-ready (g.met.M.Medium.coherent c.args.unit.now) (g.met.M.Medium.coherent c.note_withdrawal.new.unit) c.note_withdrawal.ensures.journal k (record { is_unit = r.is_unit; works = r.works; agrees = r.agrees })
        (c.note_withdrawal.ensures.cause.works ∙ ap not well));
    rows =
        λ card h.
        on_ok c.note_withdrawal.result (λ well.
        let cards = c.args.run.now.keeper.cabin.cards in
        noted-row (g.met.M.Medium.coherent c.args.unit.now) (g.met.M.Medium.coherent c.note_withdrawal.new.unit) c.note_withdrawal.ensures.journal c.args.run.now.keeper c.requires.ready c.close.new.self.cards card
        (has-row cards c.close.new.self.cards (g.M.Medium.state c.args.unit.now) (g.M.Medium.state c.args.unit.now) card
        (ap (λ (b : Cabin). (known_of b.cards card).number) c.close.ensures.kept ∙ number-set c.args.which card None cards)
        (ap (λ (b : Cabin). (known_of b.cards card).row) c.close.ensures.kept ∙ row-set c.args.which card None cards) (λ r n at. at) h));
    card = first_of (search rules, grind (arith, common_steps));
    size = first_of (search rules, grind (arith, common_steps));
    cause = first_of (search rules, grind (arith, common_steps));
  };
  stands = λ from h. c.close.ensures.stands from h;
  most = let one = c.note_withdrawal.ensures.most in (omega (arith, one), c.leave.ensures.most);
  goes = record {
    later = state-by (g.C.Chip.state c.args.card.now) (g.C.Chip.state c.leave.new.card) (is_err c.leave.result) c.leave.ensures.closes.moments.later c.leave.ensures.card.cause;
    calm = card-rests refl (c.in-Ok-leave.ensures.card.cause.unbroken refl);
  };
}

-- it fails, and is torn out
pub returns-in-Err-clause-closes : goal.returns-in-Err-clause-closes
returns-in-Err-clause-closes g c = record {
  closed =
      let run = c.args.run.now in
      let which = c.args.which in
      let X = g.C.Chip.state c.args.card.now in
      let some : session_of run.keeper.cabin.cards which ≡ Some c.in-Some.accepted = sym c.in-Some.ensures.session in
      let works : X.works ≡ true = subst (λ (o : Option Accepted). IfSome o (λ a. X.works ≡ true)) (sym (session-known run.keeper.cabin.cards which) ∙ some) c.requires.may.card.works in
      let one : 1 ≤ 0 + broken_by X.works true = rw works (omega arith) in (
        Fell,
        closed-fell g c,
        fewer_broken one (call_broken true (none_broken X) c.in-Err.ensures.card.cause),
        λ is. absurd (cc),
      );
  shows = record {
    events =
        let U = g.M.Medium.state c.args.unit.now in
        let V = g.M.Medium.state c.tear.new.unit in
        let X = g.C.Chip.state c.args.card.now in
        let Y = g.C.Chip.state c.leave.new.card in
        let crew = crew_of c.tear.new.self.cabin in
        record {
          closing = Fell;
          closed = closed-fell g c;
          notes = one-noted U V X X Y Y (g.met.M.Medium.coherent c.args.unit.now) (g.met.M.Medium.coherent c.tear.new.unit) c.requires.ready.is_unit (entry_of CARD_FAULT c.args.withdrawal.at.second c.args.withdrawal.at.second crew crew) (is_err c.tear.result)
              (λ well. ok_gives c.tear.result c.tear.ensures.leaves.noted well) c.tear.ensures.leaves.moments c.tear.ensures.behind.cause.works;
        };
    rings =
        λ tells.
        record {
          closing = Fell;
          closed = closed-fell g c;
          rings = rings-moments (g.M.Medium.state c.args.unit.now) (g.M.Medium.state c.tear.new.unit) (IsNotingEvent CARD_FAULT (fault_of c.args.withdrawal.at.second (crew_of c.tear.new.self.cabin))) (g.met.M.Medium.coherent c.args.unit.now) c.tear.ensures.leaves.moments
              (λ x n moment. table-outside CARD_FAULT x n moment.outside);
        };
    left =
        subst (λ (o : Option Accepted). IfSome o (λ s. (act : Activity) × LeavesOnly (g.C.Chip.state c.args.card.now) (g.C.Chip.state c.leave.new.card) (λ x n. IsSession s.session x → IsCardClosing s.session act x n))) c.in-Some.ensures.session
        (activity_of c.selected-selected.result, c.leave.ensures.closes.moments);
    shut =
        record {
          closing = Fell;
          closed = closed-fell g c;
          act = activity_of c.selected-selected.result;
          selected = c.selected-selected.ensures;
          closes = tt;
        };
  };
  writes = record {
    speeds = event-leaves-speeds CARD_FAULT (fault_of c.args.withdrawal.at.second (crew_of c.tear.new.self.cabin)) (g.M.Medium.state c.args.unit.now) (g.M.Medium.state c.tear.new.unit) (g.met.M.Medium.coherent c.args.unit.now) c.tear.ensures.leaves.moments;
    journal = first_of (search rules, grind (arith, common_steps));
  };
  behind = record {
    unit = first_of (search rules, grind (arith, common_steps));
    ready = first_of (search rules, grind (arith, common_steps));
    rows =
        λ card h.
        let U = g.M.Medium.state c.args.unit.now in
        c.tear.ensures.behind.rows card (subst (λ (b : Cabin). HasItsRow b.cards U card) (sym c.close.ensures.kept) (row-beside c.args.which None c.args.run.now.keeper.cabin.cards U card h));
    card =
        let cards = c.args.run.now.keeper.cabin.cards in
        let which = c.args.which in
        let chip = g.C.Chip.card c.leave.new.card in
        let X = g.C.Chip.state c.leave.new.card in
        let told : (known_of cards which).sizes ≡ Ok c.in-Ok.app = cc in
        let after : c.tear.new.self.cabin.cards ≡ with_session which None (with_session which None cards) =
        ap (λ (k : Keeper). k.cabin.cards) c.tear.ensures.torn.keeper ∙ ap (λ (b : Cabin). with_session which None b.cards) c.close.ensures.kept in
        subst (λ (q : Cards). CardMayBeCalled (known_of q which) chip X) (sym after)
        (twice-ready which cards (λ app is. let same : c.in-Ok.app ≡ app = cc in subst (λ (a : Application). IsPort a None chip X) same c.leave.ensures.card.port));
    size = first_of (search rules, grind (arith, common_steps));
    cause = first_of (search rules, grind (arith, common_steps));
  };
  stands = λ from h. c.tear.ensures.stands from None (c.close.ensures.stands from h);
  most = (c.tear.ensures.most, c.leave.ensures.most);
  goes = record {
    later = state-by (g.C.Chip.state c.args.card.now) (g.C.Chip.state c.leave.new.card) (is_err c.leave.result) c.leave.ensures.closes.moments.later c.leave.ensures.card.cause;
    calm = card-fell c.args.withdrawal.slot c.args.withdrawal.at (ap (λ (l : Listed Break). l.items) c.tear.ensures.torn.told) c.leave.ensures.card.cause.breakdowns c.leave.ensures.card.cause.once;
  };
}

pub tear-requires-clause-may : goal.tear-requires-clause-may
tear-requires-clause-may g c = record {
  minute = first_of (search rules, grind (arith, common_steps));
  second = first_of (search rules, grind (arith, common_steps));
  room = first_of (search rules, grind (arith, common_steps));
}
