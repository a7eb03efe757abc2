use Rattle.std.proofs.lemmas.Grind.{common_steps}
use Rattle.std.proofs.Common.{◌≡◌, arith, Bool, true, false, refl, rules, subst}
use Rattle.std.specs.Prelude.{is_err}
use Rattle.run_minutes.specs.run_devices.Told.{arranged}
use Rattle.run_insertion.specs.Told.{BooksNotes}
use Rattle.run_insertion.proofs.Opening.{beside-none}
use Rattle.run_insertion.proofs.Carried.{noted-carried, unclosed-carried}
use Rattle.run_insertion.specs.Entered.{IsNotedOn}
use Rattle.run_insertion.proofs.Notes.{unclosed-noted}
use Rattle.run_insertion.proofs.Accepted.{entered-cut, entered-closed, entered-unclosed, rests-closed, rests-unclosed}
use Rattle.run_minutes.proofs.Later.{state-same}
use Rattle.run_insertion.proofs.seating.note_entered.Goals as goal
use Rattle.run_insertion.proofs.seating.note_entered.Goals.{then-entering-gt0+in_ok-note_moving, else-entering-gt0}
use Rattle.run_minutes.proofs.Calm.{card-beside}

pub returns-in_err-note_moving-clause-noted : goal.returns-in_err-note_moving-clause-noted
returns-in_err-note_moving-clause-noted g c =
    let k = c.args.keeper.now in
    let e = c.args.seated.entering in
    let U = g.M.Medium.state c.args.unit.now in
    let V = g.M.Medium.state c.note_moving.new.unit in
    let X = g.C.Chip.state c.args.card.now in
    let Y = g.C.Chip.state c.note_moving.new.card in
    let Z = g.D.Chip.state c.args.others.now in
    let m = c.in_err-note_moving.ensures.noted in
    let failed : true ≡ is_err c.from_residual.result = search rules in
    subst (λ (b : Bool). (fell : Bool) × IsNotedOn c.args.seated.app c.args.seated.unclosed e b k c.note_moving.new.keeper c.args.breaks.now c.note_moving.new.breaks U V X Y fell × BooksNotes c.args.seated.app e b k c.note_moving.new.keeper fell (arranged e.which U X Z) (arranged e.which V Y Z)) failed
    (m.0, entered-cut c.args.seated.app c.args.seated.unclosed e k c.note_moving.new.keeper c.args.breaks.now c.note_moving.new.breaks U V X Y m.0 c.if-entering-gt0.true m.1, m.2)

pub returns-then-session-eq0-clause-noted : goal.returns-then-session-eq0-clause-noted
returns-then-session-eq0-clause-noted g c =
    let k = c.args.keeper.now in
    let e = c.args.seated.entering in
    let U = g.M.Medium.state c.args.unit.now in
    let X = g.C.Chip.state c.args.card.now in
    elim c.if-entering-gt0.branch [
      | then-entering-gt0+in_ok-note_moving w ↦ let m = w.in_ok-note_moving.ensures.noted in
          rw (w.keeper-is, w.breaks-is, w.unit-is, w.card-is) (
            m.0,
            entered-closed c.args.seated.app c.args.seated.unclosed e k w.note_moving.new.keeper c.args.breaks.now w.note_moving.new.breaks U (g.M.Medium.state w.note_moving.new.unit) X (g.C.Chip.state w.note_moving.new.card)
                m.0 w.if-entering-gt0.true c.if-session-eq0.true m.1,
            m.2,
          )
      | else-entering-gt0 w ↦ rw (w.keeper-is, w.breaks-is, w.unit-is, w.card-is) (false, rests-closed c.args.seated.app c.args.seated.unclosed e k c.args.breaks.now U X w.if-entering-gt0.false c.if-session-eq0.true, λ f wc a may. may.powered)
    ]

pub returns-clause-noted : goal.returns-clause-noted
returns-clause-noted g c =
    let k = c.args.keeper.now in
    let e = c.args.seated.entering in
    let U = g.M.Medium.state c.args.unit.now in
    let X = g.C.Chip.state c.args.card.now in
    let Z = g.D.Chip.state c.args.others.now in
    let next = unclosed-noted c.args.seated.unclosed e.at.second c.crew-crew.result k.cabin c.note_unclosed.result c.crew-crew.ensures c.note_unclosed.ensures.note.noted c.note_unclosed.ensures.note.moments in
    elim c.if-entering-gt0.branch [
      | then-entering-gt0+in_ok-note_moving w ↦ let m = w.in_ok-note_moving.ensures.noted in
          rw (w.keeper-is, w.breaks-is, w.card-is) (
            m.0,
            entered-unclosed c.args.seated.app c.args.seated.unclosed e k w.note_moving.new.keeper c.args.breaks.now w.note_moving.new.breaks U (g.M.Medium.state w.note_moving.new.unit) X (g.C.Chip.state w.note_moving.new.card)
                m.0 w.if-entering-gt0.true (is_err c.note_unclosed.result) (g.M.Medium.state c.note_unclosed.new.unit) c.if-session-eq0.false m.1 (rw w.unit-is at next),
            unclosed-carried c.args.seated.app e k w.note_moving.new.keeper m.0 U (g.M.Medium.state w.note_moving.new.unit) (g.M.Medium.state c.note_unclosed.new.unit) X (g.C.Chip.state w.note_moving.new.card) Z (is_err c.note_unclosed.result) m.1.keeper
                (g.met.M.Medium.coherent w.note_moving.new.unit) m.2 (rw w.unit-is at c.note_unclosed.ensures.stands.journal) (rw w.unit-is at c.note_unclosed.ensures.stands.cause),
          )
      | else-entering-gt0 w ↦ rw (w.keeper-is, w.breaks-is, w.card-is) (
        false,
        rests-unclosed c.args.seated.app c.args.seated.unclosed e k c.args.breaks.now U (g.M.Medium.state c.note_unclosed.new.unit) X w.if-entering-gt0.false (is_err c.note_unclosed.result)
            c.if-session-eq0.false (rw w.unit-is at next),
        λ f wc a may. noted-carried e.which f wc k.cabin.cards U (g.M.Medium.state c.note_unclosed.new.unit) X Z (is_err c.note_unclosed.result) may.found (g.met.M.Medium.coherent c.args.unit.now) may.powered
            (rw w.unit-is at c.note_unclosed.ensures.stands.journal) (rw w.unit-is at c.note_unclosed.ensures.stands.cause),
      )
    ]

pub returns-then-session-eq0-clause-timed : goal.returns-then-session-eq0-clause-timed
returns-then-session-eq0-clause-timed g c = elim c.if-entering-gt0.branch [
  | then-entering-gt0+in_ok-note_moving w ↦ rw w.card-is w.in_ok-note_moving.ensures.timed
  | else-entering-gt0 w ↦ rw w.card-is (λ f wc a may. beside-none f c.args.seated.entering.which (g.C.Chip.state c.args.card.now))
]

pub returns-clause-timed : goal.returns-clause-timed
returns-clause-timed g c = elim c.if-entering-gt0.branch [
  | then-entering-gt0+in_ok-note_moving w ↦ rw w.card-is w.in_ok-note_moving.ensures.timed
  | else-entering-gt0 w ↦ rw w.card-is (λ f wc a may. beside-none f c.args.seated.entering.which (g.C.Chip.state c.args.card.now))
]

-- ---- where no tear of a failed call is told no card has broken down

pub returns-in_err-note_moving-clause-behind : goal.returns-in_err-note_moving-clause-behind
returns-in_err-note_moving-clause-behind g c = record {
  ready = first_of (search rules, grind (arith, common_steps));
  rows = first_of (search rules, grind (arith, common_steps));
  stands = first_of (search rules, grind (arith, common_steps));
  cause = first_of (search rules, grind (arith, common_steps));
  card = first_of (search rules, grind (arith, common_steps));
  size = first_of (search rules, grind (arith, common_steps));
}

pub returns-in_err-note_moving-clause-goes : goal.returns-in_err-note_moving-clause-goes
returns-in_err-note_moving-clause-goes g c = record {
  card = record {
    later = c.in_err-note_moving.ensures.goes.card.later;
    calm = c.in_err-note_moving.ensures.goes.card.calm;
  };
  most = let one = c.in_err-note_moving.ensures.goes.most.0 in (omega (arith, one), c.in_err-note_moving.ensures.goes.most.1);
}

pub returns-then-session-eq0-clause-behind : goal.returns-then-session-eq0-clause-behind
returns-then-session-eq0-clause-behind g c = record {
  ready = first_of (search rules, grind (arith, common_steps));
  rows = first_of (search rules, grind (arith, common_steps));
  stands =
      elim c.if-entering-gt0.branch [
        | then-entering-gt0+in_ok-note_moving w ↦ λ from le s. rw w.keeper-is (w.in_ok-note_moving.ensures.behind.stands from le s)
        | else-entering-gt0 w ↦ λ from le s. rw w.keeper-is s
      ];
  cause = first_of (search rules, grind (arith, common_steps));
  card =
      elim c.if-entering-gt0.branch [
        | then-entering-gt0+in_ok-note_moving w ↦ rw (w.keeper-is, w.card-is) w.in_ok-note_moving.ensures.behind.card
        | else-entering-gt0 w ↦ rw (w.keeper-is, w.card-is) c.requires.card.card
      ];
  size =
      elim c.if-entering-gt0.branch [
        | then-entering-gt0+in_ok-note_moving w ↦ rw w.card-is w.in_ok-note_moving.ensures.behind.size
        | else-entering-gt0 w ↦ rw w.card-is refl
      ];
}

pub returns-then-session-eq0-clause-goes : goal.returns-then-session-eq0-clause-goes
returns-then-session-eq0-clause-goes g c = record {
  card = record {
    later =
        elim c.if-entering-gt0.branch [
          | then-entering-gt0+in_ok-note_moving w ↦ rw w.card-is w.in_ok-note_moving.ensures.goes.card.later
          | else-entering-gt0 w ↦ rw w.card-is (state-same (g.C.Chip.state c.args.card.now))
        ];
    calm =
        elim c.if-entering-gt0.branch [
          | then-entering-gt0+in_ok-note_moving w ↦ rw (w.breaks-is, w.card-is) w.in_ok-note_moving.ensures.goes.card.calm
          | else-entering-gt0 w ↦ rw (w.breaks-is, w.card-is) (card-beside (g.C.Chip.state c.args.card.now) (omega arith))
        ];
  };
  most =
      elim c.if-entering-gt0.branch [
        | then-entering-gt0+in_ok-note_moving w ↦ let one = w.in_ok-note_moving.ensures.goes.most.0 in rw (w.unit-is, w.card-is) (omega (arith, one), w.in_ok-note_moving.ensures.goes.most.1)
        | else-entering-gt0 w ↦ rw (w.unit-is, w.card-is) (omega arith, omega arith)
      ];
}

pub returns-clause-behind : goal.returns-clause-behind
returns-clause-behind g c = record {
  ready = first_of (search rules, grind (arith, common_steps));
  rows = first_of (search rules, grind (arith, common_steps));
  stands =
      elim c.if-entering-gt0.branch [
        | then-entering-gt0+in_ok-note_moving w ↦ λ from le s. rw w.keeper-is (w.in_ok-note_moving.ensures.behind.stands from le s)
        | else-entering-gt0 w ↦ λ from le s. rw w.keeper-is s
      ];
  cause = first_of (search rules, grind (arith, common_steps));
  card =
      elim c.if-entering-gt0.branch [
        | then-entering-gt0+in_ok-note_moving w ↦ rw (w.keeper-is, w.card-is) w.in_ok-note_moving.ensures.behind.card
        | else-entering-gt0 w ↦ rw (w.keeper-is, w.card-is) c.requires.card.card
      ];
  size = first_of (search rules, grind (arith, common_steps));
}

pub returns-clause-goes : goal.returns-clause-goes
returns-clause-goes g c = record {
  card = record {
    later =
        elim c.if-entering-gt0.branch [
          | then-entering-gt0+in_ok-note_moving w ↦ rw w.card-is w.in_ok-note_moving.ensures.goes.card.later
          | else-entering-gt0 w ↦ rw w.card-is (state-same (g.C.Chip.state c.args.card.now))
        ];
    calm =
        elim c.if-entering-gt0.branch [
          | then-entering-gt0+in_ok-note_moving w ↦ rw (w.breaks-is, w.card-is) w.in_ok-note_moving.ensures.goes.card.calm
          | else-entering-gt0 w ↦ rw (w.breaks-is, w.card-is) (card-beside (g.C.Chip.state c.args.card.now) (omega arith))
        ];
  };
  most =
      let next = c.note_unclosed.ensures.stands.most in
      elim c.if-entering-gt0.branch [
        | then-entering-gt0+in_ok-note_moving w ↦ let one = w.in_ok-note_moving.ensures.goes.most.0 in
            let last = (rw w.unit-is at next) in
            rw w.card-is (omega (arith, one, last), w.in_ok-note_moving.ensures.goes.most.1)
        | else-entering-gt0 w ↦ let last = (rw w.unit-is at next) in
            rw w.card-is (omega (arith, last), omega arith)
      ];
}

-- ---- its writes

pub note_moving-requires-clause-may : goal.note_moving-requires-clause-may
note_moving-requires-clause-may g c = c.requires.may

pub note_moving-requires-clause-card : goal.note_moving-requires-clause-card
note_moving-requires-clause-card g c = c.requires.card
