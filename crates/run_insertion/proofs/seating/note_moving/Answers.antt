use Rattle.std.proofs.lemmas.Grind.{common_steps}
use Rattle.std.proofs.Common.{◌≡◌, Bool, true, false, rules, refl, subst, arith, ap}
use Rattle.std.specs.Prelude.{None, is_err}
use Rattle.unit_notes.specs.event_model.declared.kinds.TheConstants.{INSERTION_WHILE_DRIVING}
use Rattle.run_insertion.specs.Noted.{IsOnUnit, IsComing, event_of}
use Rattle.run_insertion.specs.Entered.{IsMoved}
use Rattle.run_insertion.proofs.Opening.{beside-none}
use Rattle.run_insertion.proofs.Notes.{not_cut, one-note, fault-noted}
use Rattle.card_layout.proofs.Sizes.{largest_image}
use Rattle.run_minutes.specs.run_devices.Told.{arranged}
use Rattle.run_insertion.specs.Told.{BooksNotes}
use Rattle.run_insertion.proofs.Carried as booked
use Rattle.run_insertion.proofs.Accepted.{event-is, moved-cut, moved-kept, moved-torn}
use Rattle.run_minutes.proofs.Later.{state-same, state-by}
use Rattle.run_minutes.proofs.Calm.{card-beside, card-rests, card-fell}
use Rattle.run_outcome.specs.Lines.{Listed}
use Rattle.log_model.specs.declared.lines.Break.{Break}
use Rattle.run_insertion.proofs.seating.note_moving.Goals as goal

pub note_event_on-requires-clause-port : goal.note_event_on-requires-clause-port
note_event_on-requires-clause-port g c = c.requires.card.card.port c.args.seated.app c.requires.card.sizes

pub returns-in_err-note_driving-clause-noted : goal.returns-in_err-note_driving-clause-noted
returns-in_err-note_driving-clause-noted g c =
    let k = c.args.keeper.now in
    let e = c.args.seated.entering in
    let U = g.M.Medium.state c.args.unit.now in
    let V = g.M.Medium.state c.note_driving.new.unit in
    let X = g.C.Chip.state c.args.card.now in
    let Z = g.D.Chip.state c.args.others.now in
    let failed : true ≡ is_err c.from_residual.result = search rules in
    subst (λ (b : Bool). (fell : Bool) × IsMoved c.args.seated.app e b k k c.args.breaks.now c.args.breaks.now U V X X fell × BooksNotes c.args.seated.app e b k k fell (arranged e.which U X Z) (arranged e.which V X Z)) failed (
      false,
      moved-cut c.args.seated.app e k c.args.breaks.now U V X (one-note IsOnUnit IsComing (event_of INSERTION_WHILE_DRIVING e.at.second e.at.second k.cabin) (λ well. absurd (not_cut well)) c.note_driving.ensures.note.moments),
      λ f w a m. booked.moved-cut f w c.args.seated.app a e k U V X Z m (g.met.M.Medium.coherent c.args.unit.now) c.note_driving.ensures.stands.journal c.in_err-note_driving.ensures.stands.cause,
    )

pub returns-in-Ok-clause-noted : goal.returns-in-Ok-clause-noted
returns-in-Ok-clause-noted g c =
    let k = c.args.keeper.now in
    let e = c.args.seated.entering in (
      false,
      moved-kept c.args.seated.app e k c.args.breaks.now (g.M.Medium.state c.args.unit.now) (g.M.Medium.state c.note_driving.new.unit) (g.C.Chip.state c.args.card.now) (g.C.Chip.state c.note_event_on.new.card) c.on_card-event.result
          (event-is _ _ _ _ e c.crew.result c.on_card-event.ensures c.card_driving.ensures c.identity.ensures) c.note_event_on.ensures.note.moments c.note_event_on.ensures.most
          (one-note IsOnUnit IsComing (event_of INSERTION_WHILE_DRIVING e.at.second e.at.second k.cabin) (λ well. c.in_ok-note_driving.ensures.note.noted) c.note_driving.ensures.note.moments) c.in-Ok.ensures.note.noted c.in-Ok.ensures.card.cause,
      λ f w a m. booked.moved-kept f w c.args.seated.app a e k (g.M.Medium.state c.args.unit.now) (g.M.Medium.state c.note_driving.new.unit) (g.C.Chip.state c.args.card.now) (g.D.Chip.state c.args.others.now) m (g.met.M.Medium.coherent c.args.unit.now) c.note_driving.ensures.stands.journal c.in_ok-note_driving.ensures.stands.cause (g.met.M.Medium.coherent c.note_driving.new.unit) (g.met.C.Chip.coherent c.args.card.now) (g.C.Chip.state c.note_event_on.new.card) (g.met.C.Chip.coherent c.note_event_on.new.card) c.on_card-event.result c.note_event_on.ensures.note.moments c.requires.card.works c.in-Ok.ensures.card.cause (omega (arith, largest_image c.args.seated.app (c.requires.card.card.port c.args.seated.app c.requires.card.sizes).good, (c.requires.card.card.port c.args.seated.app c.requires.card.sizes).size)),
    )

pub returns-in-Err-clause-noted : goal.returns-in-Err-clause-noted
returns-in-Err-clause-noted g c =
    let k = c.args.keeper.now in
    let e = c.args.seated.entering in (
      true,
      moved-torn c.args.seated.app e k c.args.breaks.now (g.M.Medium.state c.args.unit.now) (g.M.Medium.state c.note_driving.new.unit) (g.C.Chip.state c.args.card.now) (g.C.Chip.state c.note_event_on.new.card) c.on_card-event.result
          (event-is _ _ _ _ e c.crew.result c.on_card-event.ensures c.card_driving.ensures c.identity.ensures) c.note_event_on.ensures.note.moments c.note_event_on.ensures.most
          (one-note IsOnUnit IsComing (event_of INSERTION_WHILE_DRIVING e.at.second e.at.second k.cabin) (λ well. c.in_ok-note_driving.ensures.note.noted) c.note_driving.ensures.note.moments)
          (is_err c.tear.result) c.tear.new.self c.tear.new.breaks (g.M.Medium.state c.tear.new.unit) c.requires.card.works c.in-Err.ensures.card.cause c.tear.ensures.torn.keeper c.tear.ensures.torn.told
          (fault-noted e k c.tear.new.self c.tear.result c.tear.ensures.torn.keeper c.tear.ensures.leaves.noted c.tear.ensures.leaves.moments),
      λ f w a m. booked.moved-torn f w c.args.seated.app a e k (g.M.Medium.state c.args.unit.now) (g.M.Medium.state c.note_driving.new.unit) (g.C.Chip.state c.args.card.now) (g.D.Chip.state c.args.others.now) m (g.met.M.Medium.coherent c.args.unit.now) c.note_driving.ensures.stands.journal c.in_ok-note_driving.ensures.stands.cause (g.met.M.Medium.coherent c.note_driving.new.unit) (g.met.C.Chip.coherent c.args.card.now) (g.C.Chip.state c.note_event_on.new.card) (g.met.C.Chip.coherent c.note_event_on.new.card) c.on_card-event.result c.note_event_on.ensures.note.moments (is_err c.tear.result) c.tear.new.self (g.M.Medium.state c.tear.new.unit) c.tear.ensures.torn.keeper c.tear.ensures.leaves.journal c.tear.ensures.behind.cause,
    )

-- ---- when the card was last used

pub returns-in_err-note_driving-clause-timed : goal.returns-in_err-note_driving-clause-timed
returns-in_err-note_driving-clause-timed g c = λ f w a m. beside-none f c.args.seated.entering.which (g.C.Chip.state c.args.card.now)

pub returns-in-Ok-clause-timed : goal.returns-in-Ok-clause-timed
returns-in-Ok-clause-timed g c = λ f w a m. booked.moved-timed f w c.args.seated.app a c.args.seated.entering c.args.keeper.now (g.M.Medium.state c.args.unit.now) (g.M.Medium.state c.note_driving.new.unit) (g.C.Chip.state c.args.card.now) (g.D.Chip.state c.args.others.now) m (g.met.M.Medium.coherent c.args.unit.now) c.note_driving.ensures.stands.journal c.in_ok-note_driving.ensures.stands.cause (g.met.M.Medium.coherent c.note_driving.new.unit) (g.met.C.Chip.coherent c.args.card.now) (g.C.Chip.state c.note_event_on.new.card) (g.met.C.Chip.coherent c.note_event_on.new.card) c.on_card-event.result c.note_event_on.ensures.note.moments

pub returns-in-Err-clause-timed : goal.returns-in-Err-clause-timed
returns-in-Err-clause-timed g c = λ f w a m. booked.moved-timed f w c.args.seated.app a c.args.seated.entering c.args.keeper.now (g.M.Medium.state c.args.unit.now) (g.M.Medium.state c.note_driving.new.unit) (g.C.Chip.state c.args.card.now) (g.D.Chip.state c.args.others.now) m (g.met.M.Medium.coherent c.args.unit.now) c.note_driving.ensures.stands.journal c.in_ok-note_driving.ensures.stands.cause (g.met.M.Medium.coherent c.note_driving.new.unit) (g.met.C.Chip.coherent c.args.card.now) (g.C.Chip.state c.note_event_on.new.card) (g.met.C.Chip.coherent c.note_event_on.new.card) c.on_card-event.result c.note_event_on.ensures.note.moments

-- ---- where no tear of a failed call is told no card has broken down

pub returns-in_err-note_driving-clause-behind : goal.returns-in_err-note_driving-clause-behind
returns-in_err-note_driving-clause-behind g c = record {
  ready = first_of (search rules, grind (arith, common_steps));
  rows = first_of (search rules, grind (arith, common_steps));
  stands = first_of (search rules, grind (arith, common_steps));
  cause = first_of (search rules, grind (arith, common_steps));
  card = first_of (search rules, grind (arith, common_steps));
  size = first_of (search rules, grind (arith, common_steps));
}

pub returns-in_err-note_driving-clause-goes : goal.returns-in_err-note_driving-clause-goes
returns-in_err-note_driving-clause-goes g c = record {
  card = record {
    later = state-same (g.C.Chip.state c.args.card.now);
    calm = card-beside (g.C.Chip.state c.args.card.now) (omega arith);
  };
  most = let one = c.in_err-note_driving.ensures.stands.most in (omega (arith, one), omega arith);
}

pub returns-in-Ok-clause-behind : goal.returns-in-Ok-clause-behind
returns-in-Ok-clause-behind g c = record {
  ready = first_of (search rules, grind (arith, common_steps));
  rows = first_of (search rules, grind (arith, common_steps));
  stands = first_of (search rules, grind (arith, common_steps));
  cause = first_of (search rules, grind (arith, common_steps));
  card = first_of (search rules, grind (arith, common_steps));
  size = first_of (search rules, grind (arith, common_steps));
}

pub returns-in-Ok-clause-goes : goal.returns-in-Ok-clause-goes
returns-in-Ok-clause-goes g c = record {
  card = record {
    later = state-by (g.C.Chip.state c.args.card.now) (g.C.Chip.state c.note_event_on.new.card) _ c.note_event_on.ensures.note.moments.later c.in-Ok.ensures.card.cause;
    calm = card-rests refl (c.in-Ok.ensures.card.cause.unbroken refl);
  };
  most = let one = c.in_ok-note_driving.ensures.stands.most in (omega (arith, one), c.note_event_on.ensures.most);
}

pub returns-in-Err-clause-behind : goal.returns-in-Err-clause-behind
returns-in-Err-clause-behind g c = record {
  ready = first_of (search rules, grind (arith, common_steps));
  rows = first_of (search rules, grind (arith, common_steps));
  stands = λ from le s. c.tear.ensures.stands from None s;
  cause = first_of (search rules, grind (arith, common_steps));
  card = first_of (search rules, grind (arith, common_steps));
  size = first_of (search rules, grind (arith, common_steps));
}

pub returns-in-Err-clause-goes : goal.returns-in-Err-clause-goes
returns-in-Err-clause-goes g c = record {
  card = record {
    later = state-by (g.C.Chip.state c.args.card.now) (g.C.Chip.state c.note_event_on.new.card) _ c.note_event_on.ensures.note.moments.later c.in-Err.ensures.card.cause;
    calm = card-fell c.args.seated.entering.slot c.args.seated.entering.at (ap (λ (l : Listed Break). l.items) c.tear.ensures.torn.told) c.in-Err.ensures.card.cause.breakdowns c.in-Err.ensures.card.cause.once;
  };
  most = let one = c.in_ok-note_driving.ensures.stands.most in let last = c.tear.ensures.most in (omega (arith, one, last), c.note_event_on.ensures.most);
}

-- ---- its writes

pub tear-requires-clause-may : goal.tear-requires-clause-may
tear-requires-clause-may g c = record {
  minute = first_of (search rules, grind (arith, common_steps));
  second = first_of (search rules, grind (arith, common_steps));
  room = first_of (search rules, grind (arith, common_steps));
}
