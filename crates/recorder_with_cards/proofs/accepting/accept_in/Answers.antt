use Rattle.std.proofs.lemmas.Grind.{common_steps}
use Rattle.std.proofs.Common.{◌∙◌, ℕ, sym, subst, refl, arith, rules}
use Rattle.std.specs.Prelude.{is_err}
use Rattle.trace_model.specs.declared.Card.{Card}
use Rattle.device_calls.specs.safety_model.Safe.{Devices}
use Rattle.run_minutes.specs.run_promise.Between.{devices}
use Rattle.run_acts.specs.run_note_record.OnCards.{IsReading}
use Rattle.recorder_with_cards.specs.Judged.{JudgesSo, EventsJudged}
use Rattle.recorder_with_cards.specs.JudgedRings.{RingsJudged}
use Rattle.run_minutes.proofs.Later.{state-by, later-of-a, later-of-b}
use Rattle.recorder_with_cards.specs.JudgedCards.{CardsJudged}
use Rattle.run_minutes.proofs.Calm.{calm-of-a, calm-of-b}
use Rattle.trace_model.specs.declared.Card.TheVariants.{A, B}
use Rattle.recorder_with_cards.proofs.accepting.accept_in.Goals as goal

pub accept_here-requires-clause-acting : goal.accept_here-requires-clause-acting
accept_here-requires-clause-acting g c = c.requires.acting

pub accept_here-requires-in-B-clause-acting : goal.accept_here-requires-in-B-clause-acting
accept_here-requires-in-B-clause-acting g c = c.requires.acting

-- ---- where no tear of a failed call is told no card has broken down

pub returns-in-A-clause-accepted : goal.returns-in-A-clause-accepted
returns-in-A-clause-accepted g c = record {
  enters = (record { which = A; slot = c.args.put.slot; at = c.args.put.at; speed = c.args.put.speed; odometer = c.odometer_now-odometer.result }, record { which = sym c.in-A.is; slot_is = refl; moment = refl; speed_is = refl; odometer = c.odometer_now-odometer.ensures.value }, c.accept_here.ensures.accepted.enters);
  run = c.accept_here.ensures.accepted.run;
  refused = c.accept_here.ensures.accepted.refused;
  beside = c.accept_here.ensures.accepted.beside;
}

pub returns-in-A-clause-promises : goal.returns-in-A-clause-promises
returns-in-A-clause-promises g c = λ room. record {
  recorded =
      let d : Devices = devices (g.M.Medium.state c.args.unit.now) (g.C.Chip.state c.args.card_a.now) (g.D.Chip.state c.args.card_b.now) in
      let e : Devices = devices (g.M.Medium.state c.accept_here.new.unit) (g.C.Chip.state c.accept_here.new.card) (g.D.Chip.state c.args.card_b.now) in
      subst (λ (card : Card). JudgesSo c.args.put.slot card c.args.put.at (is_err c.accept_here.result) c.args.run.now c.accept_here.new.run c.args.outcome.now c.accept_here.new.outcome d e) (sym c.in-A.is) ((c.accept_here.ensures.promises room).recorded c.odometer_now-odometer.ensures.value);
  evented =
      let d : Devices = devices (g.M.Medium.state c.args.unit.now) (g.C.Chip.state c.args.card_a.now) (g.D.Chip.state c.args.card_b.now) in
      let e : Devices = devices (g.M.Medium.state c.accept_here.new.unit) (g.C.Chip.state c.accept_here.new.card) (g.D.Chip.state c.args.card_b.now) in
      subst (λ (card : Card). EventsJudged c.args.put.slot card c.args.put.at c.args.put.speed (is_err c.accept_here.result) c.args.run.now c.accept_here.new.run c.args.outcome.now c.accept_here.new.outcome d e) (sym c.in-A.is) (c.accept_here.ensures.promises room).evented;
  ringed =
      let d : Devices = devices (g.M.Medium.state c.args.unit.now) (g.C.Chip.state c.args.card_a.now) (g.D.Chip.state c.args.card_b.now) in
      let e : Devices = devices (g.M.Medium.state c.accept_here.new.unit) (g.C.Chip.state c.accept_here.new.card) (g.D.Chip.state c.args.card_b.now) in
      subst (λ (card : Card). RingsJudged c.args.put.slot card c.args.put.at (is_err c.accept_here.result) c.args.run.now c.accept_here.new.run c.args.outcome.now c.accept_here.new.outcome d e) (sym c.in-A.is)
      (λ o done s n waits fewer at next spans now counted time.
      let same = c.odometer_now-odometer.ensures.value next.goes.within.sp next.goes.within.minutes in
      (c.accept_here.ensures.promises room).ringed o done s n waits fewer at next spans (record { at = same ∙ now.at; reads = subst (λ (k : ℕ). IsReading spans s.number k) (sym same) now.reads }) counted time);
  cards =
      let d : Devices = devices (g.M.Medium.state c.args.unit.now) (g.C.Chip.state c.args.card_a.now) (g.D.Chip.state c.args.card_b.now) in
      let e : Devices = devices (g.M.Medium.state c.accept_here.new.unit) (g.C.Chip.state c.accept_here.new.card) (g.D.Chip.state c.args.card_b.now) in
      subst (λ (card : Card). CardsJudged c.args.put.slot card c.args.put.at c.args.put.speed (is_err c.accept_here.result) c.args.run.now c.args.outcome.now c.accept_here.new.outcome d e) (sym c.in-A.is) (c.accept_here.ensures.promises room).cards;
}

pub returns-in-A-clause-leaves : goal.returns-in-A-clause-leaves
returns-in-A-clause-leaves g c = record {
  rings = (record { which = A; slot = c.args.put.slot; at = c.args.put.at; speed = c.args.put.speed; odometer = c.odometer_now-odometer.result }, record { which = sym c.in-A.is; slot_is = refl; moment = refl; speed_is = refl; odometer = c.odometer_now-odometer.ensures.value }, c.accept_here.ensures.leaves.rings);
  noted = (record { which = A; slot = c.args.put.slot; at = c.args.put.at; speed = c.args.put.speed; odometer = c.odometer_now-odometer.result }, record { which = sym c.in-A.is; slot_is = refl; moment = refl; speed_is = refl; odometer = c.odometer_now-odometer.ensures.value }, c.accept_here.ensures.leaves.noted);
}

pub returns-in-A-clause-behind : goal.returns-in-A-clause-behind
returns-in-A-clause-behind g c = c.accept_here.ensures.behind

pub returns-in-A-clause-goes : goal.returns-in-A-clause-goes
returns-in-A-clause-goes g c = record {
  later = later-of-a (g.M.Medium.state c.args.unit.now) (g.M.Medium.state c.accept_here.new.unit) (g.C.Chip.state c.args.card_a.now) (g.C.Chip.state c.accept_here.new.card) (g.D.Chip.state c.args.card_b.now) (state-by (g.M.Medium.state c.args.unit.now) (g.M.Medium.state c.accept_here.new.unit) _ c.accept_here.ensures.goes.clock c.accept_here.ensures.behind.held.cause) c.accept_here.ensures.goes.later c.accept_here.ensures.goes.speeds;
  calm = calm-of-a (g.M.Medium.state c.args.unit.now) (g.M.Medium.state c.accept_here.new.unit) (g.C.Chip.state c.args.card_a.now) (g.C.Chip.state c.accept_here.new.card) (g.D.Chip.state c.args.card_b.now) c.accept_here.ensures.goes.calm;
  most = record { unit = c.accept_here.ensures.goes.most.0; card_a = c.accept_here.ensures.goes.most.1; card_b = omega arith };
}

pub returns-in-B-clause-accepted : goal.returns-in-B-clause-accepted
returns-in-B-clause-accepted g c = record {
  enters = (record { which = B; slot = c.args.put.slot; at = c.args.put.at; speed = c.args.put.speed; odometer = c.odometer_now-odometer.result }, record { which = sym c.in-B.is; slot_is = refl; moment = refl; speed_is = refl; odometer = c.odometer_now-odometer.ensures.value }, c.accept_here-in-B.ensures.accepted.enters);
  run = c.accept_here-in-B.ensures.accepted.run;
  refused = c.accept_here-in-B.ensures.accepted.refused;
  beside = c.accept_here-in-B.ensures.accepted.beside;
}

pub returns-in-B-clause-promises : goal.returns-in-B-clause-promises
returns-in-B-clause-promises g c = λ room. record {
  recorded =
      let d : Devices = devices (g.M.Medium.state c.args.unit.now) (g.C.Chip.state c.args.card_a.now) (g.D.Chip.state c.args.card_b.now) in
      let e : Devices = devices (g.M.Medium.state c.accept_here-in-B.new.unit) (g.C.Chip.state c.args.card_a.now) (g.D.Chip.state c.accept_here-in-B.new.card) in
      subst (λ (card : Card). JudgesSo c.args.put.slot card c.args.put.at (is_err c.accept_here-in-B.result) c.args.run.now c.accept_here-in-B.new.run c.args.outcome.now c.accept_here-in-B.new.outcome d e) (sym c.in-B.is) ((c.accept_here-in-B.ensures.promises room).recorded c.odometer_now-odometer.ensures.value);
  evented =
      let d : Devices = devices (g.M.Medium.state c.args.unit.now) (g.C.Chip.state c.args.card_a.now) (g.D.Chip.state c.args.card_b.now) in
      let e : Devices = devices (g.M.Medium.state c.accept_here-in-B.new.unit) (g.C.Chip.state c.args.card_a.now) (g.D.Chip.state c.accept_here-in-B.new.card) in
      subst (λ (card : Card). EventsJudged c.args.put.slot card c.args.put.at c.args.put.speed (is_err c.accept_here-in-B.result) c.args.run.now c.accept_here-in-B.new.run c.args.outcome.now c.accept_here-in-B.new.outcome d e) (sym c.in-B.is) (c.accept_here-in-B.ensures.promises room).evented;
  ringed =
      let d : Devices = devices (g.M.Medium.state c.args.unit.now) (g.C.Chip.state c.args.card_a.now) (g.D.Chip.state c.args.card_b.now) in
      let e : Devices = devices (g.M.Medium.state c.accept_here-in-B.new.unit) (g.C.Chip.state c.args.card_a.now) (g.D.Chip.state c.accept_here-in-B.new.card) in
      subst (λ (card : Card). RingsJudged c.args.put.slot card c.args.put.at (is_err c.accept_here-in-B.result) c.args.run.now c.accept_here-in-B.new.run c.args.outcome.now c.accept_here-in-B.new.outcome d e) (sym c.in-B.is)
      (λ o done s n waits fewer at next spans now counted time.
      let same = c.odometer_now-odometer.ensures.value next.goes.within.sp next.goes.within.minutes in
      (c.accept_here-in-B.ensures.promises room).ringed o done s n waits fewer at next spans (record { at = same ∙ now.at; reads = subst (λ (k : ℕ). IsReading spans s.number k) (sym same) now.reads }) counted time);
  cards =
      let d : Devices = devices (g.M.Medium.state c.args.unit.now) (g.C.Chip.state c.args.card_a.now) (g.D.Chip.state c.args.card_b.now) in
      let e : Devices = devices (g.M.Medium.state c.accept_here-in-B.new.unit) (g.C.Chip.state c.args.card_a.now) (g.D.Chip.state c.accept_here-in-B.new.card) in
      subst (λ (card : Card). CardsJudged c.args.put.slot card c.args.put.at c.args.put.speed (is_err c.accept_here-in-B.result) c.args.run.now c.args.outcome.now c.accept_here-in-B.new.outcome d e) (sym c.in-B.is) (c.accept_here-in-B.ensures.promises room).cards;
}

pub returns-in-B-clause-leaves : goal.returns-in-B-clause-leaves
returns-in-B-clause-leaves g c = record {
  rings = (record { which = B; slot = c.args.put.slot; at = c.args.put.at; speed = c.args.put.speed; odometer = c.odometer_now-odometer.result }, record { which = sym c.in-B.is; slot_is = refl; moment = refl; speed_is = refl; odometer = c.odometer_now-odometer.ensures.value }, c.accept_here-in-B.ensures.leaves.rings);
  noted = (record { which = B; slot = c.args.put.slot; at = c.args.put.at; speed = c.args.put.speed; odometer = c.odometer_now-odometer.result }, record { which = sym c.in-B.is; slot_is = refl; moment = refl; speed_is = refl; odometer = c.odometer_now-odometer.ensures.value }, c.accept_here-in-B.ensures.leaves.noted);
}

pub returns-in-B-clause-behind : goal.returns-in-B-clause-behind
returns-in-B-clause-behind g c = c.accept_here-in-B.ensures.behind

pub returns-in-B-clause-goes : goal.returns-in-B-clause-goes
returns-in-B-clause-goes g c = record {
  later = later-of-b (g.M.Medium.state c.args.unit.now) (g.M.Medium.state c.accept_here-in-B.new.unit) (g.C.Chip.state c.args.card_a.now) (g.D.Chip.state c.args.card_b.now) (g.D.Chip.state c.accept_here-in-B.new.card) (state-by (g.M.Medium.state c.args.unit.now) (g.M.Medium.state c.accept_here-in-B.new.unit) _ c.accept_here-in-B.ensures.goes.clock c.accept_here-in-B.ensures.behind.held.cause) c.accept_here-in-B.ensures.goes.later c.accept_here-in-B.ensures.goes.speeds;
  calm = calm-of-b (g.M.Medium.state c.args.unit.now) (g.M.Medium.state c.accept_here-in-B.new.unit) (g.C.Chip.state c.args.card_a.now) (g.D.Chip.state c.args.card_b.now) (g.D.Chip.state c.accept_here-in-B.new.card) c.accept_here-in-B.ensures.goes.calm;
  most = record { unit = c.accept_here-in-B.ensures.goes.most.0; card_a = omega arith; card_b = c.accept_here-in-B.ensures.goes.most.1 };
}

pub accept_here-requires-clause-may : goal.accept_here-requires-clause-may
accept_here-requires-clause-may g c = record {
  none = c.requires.may.none;
  at = c.requires.may.at;
  seat = first_of (search rules, grind (arith, common_steps));
  breaks = c.requires.may.breaks;
  finds = c.requires.may.finds;
}

pub accept_here-requires-in-B-clause-may : goal.accept_here-requires-in-B-clause-may
accept_here-requires-in-B-clause-may g c = record {
  none = c.requires.may.none;
  at = c.requires.may.at;
  seat = first_of (search rules, grind (arith, common_steps));
  breaks = c.requires.may.breaks;
  finds = c.requires.may.finds;
}
