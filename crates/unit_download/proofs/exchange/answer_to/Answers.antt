use Rattle.std.proofs.lemmas.Grind.{common_steps}
use Rattle.std.proofs.Common.{[], ◌∷◌, ◌∙◌, List, ℕ, Option, None, refl, sym, ap, rules, arith}
use Rattle.link_model.specs.Frames.{Right}
use Rattle.link_model.specs.Answers.{answered}
use Rattle.message_model.specs.Sending.{content_sent}
use Rattle.unit_memory.proofs.Told.{one_told}
use Rattle.unit_download.specs.Wires.{of_loader}
use Rattle.link_frames.specs.Asking.{asks_unit}
use Rattle.unit_download.proofs.Passing.{still-more}
use Rattle.unit_download.proofs.Faults.{reply, reply_told, fault_stops, memory_stops}
use Rattle.unit_download.proofs.exchange.answer_to.Goals as goal

pub returns-in_default-clause-stops : goal.returns-in_default-clause-stops
returns-in_default-clause-stops g c =
    let after = c.answer.new.self.state in
    let state = c.args.session.now.state in
    let image = (g.U.Medium.state c.args.unit.now).image in
    let e = c.in_ok-answer.ensures in
    let silent = sym (ap (λ (o : Option (List ℕ)). reply o after) c.in_default.is) in
    let possible = e.possible in
    let replied = reply_told image state c.args.sent (reply None after)
    (one_told image _ e.answered (λ x is. silent ∙ is ∙ ap (λ (s : List ℕ). answered (content_sent x) state (Right s)) c.copy_of.ensures))
    (possible.0, silent ∙ possible.1 ∙ ap (λ (s : List ℕ). answered possible.0 state (Right s)) c.copy_of.ensures) in
    (of_loader c.args.sent ∷ [], c.in_ok-push.ensures.ok, (refl, (after, replied)))

pub returns-in_err-answer-clause-stops : goal.returns-in_err-answer-clause-stops
returns-in_err-answer-clause-stops g c =
    let state = c.args.session.now.state in
    let asks = ap (λ (l : List ℕ). asks_unit state (Right l)) (sym c.copy_of.ensures) ∙ c.in_err-answer.ensures.silent in
    fault_stops c.from_residual-in_err-answer.result c.in_err-answer.field-0.0 (g.U.Medium.state c.args.unit.now).image state c.args.sent (g.T.Tape.frames c.args.wire.now) (g.T.Tape.frames c.push.new.self) c.from_residual-in_err-answer.ensures.1
    c.in_ok-push.ensures.ok asks

pub returns-in_err-push-2-clause-stops : goal.returns-in_err-push-2-clause-stops
returns-in_err-push-2-clause-stops g c =
    let had = g.T.Tape.frames c.args.wire.now in
    let mid = g.T.Tape.frames c.push.new.self in
    let has = g.T.Tape.frames c.push-2.new.self in
    memory_stops c.from_residual-in_err-push-2.result (g.U.Medium.state c.args.unit.now).image c.args.session.now.state c.args.sent had has c.from_residual-in_err-push-2.ensures.1
    (still-more had mid has (of_loader c.args.sent ∷ []) c.in_ok-push.ensures.ok c.in_err-push-2.ensures.err)

pub returns-in_err-push-clause-frames : goal.returns-in_err-push-clause-frames
returns-in_err-push-clause-frames g c = record {
  more = first_of (search rules, grind (arith, common_steps));
  few = first_of (search rules, grind (arith, common_steps));
}

pub returns-in_err-answer-clause-frames : goal.returns-in_err-answer-clause-frames
returns-in_err-answer-clause-frames g c = record {
  more = first_of (search rules, grind (arith, common_steps));
  few = first_of (search rules, grind (arith, common_steps));
}

pub returns-in_default-clause-frames : goal.returns-in_default-clause-frames
returns-in_default-clause-frames g c = record {
  more = first_of (search rules, grind (arith, common_steps));
  few = first_of (search rules, grind (arith, common_steps));
}

pub returns-in_err-push-2-clause-frames : goal.returns-in_err-push-2-clause-frames
returns-in_err-push-2-clause-frames g c = record {
  more = first_of (search rules, grind (arith, common_steps));
  few = first_of (search rules, grind (arith, common_steps));
}

pub returns-clause-frames : goal.returns-clause-frames
returns-clause-frames g c = record {
  more = first_of (search rules, grind (arith, common_steps));
  few = first_of (search rules, grind (arith, common_steps));
}

pub returns-in_err-push-clause-unit_judged : goal.returns-in_err-push-clause-unit_judged
returns-in_err-push-clause-unit_judged g c = record {
  found = first_of (search rules, grind (arith, common_steps));
  bad = first_of (search rules, grind (arith, common_steps));
}

pub returns-in_err-answer-clause-unit_judged : goal.returns-in_err-answer-clause-unit_judged
returns-in_err-answer-clause-unit_judged g c = record {
  found = first_of (search rules, grind (arith, common_steps));
  bad = first_of (search rules, grind (arith, common_steps));
}

pub returns-in_default-clause-unit_judged : goal.returns-in_default-clause-unit_judged
returns-in_default-clause-unit_judged g c = record {
  found = first_of (search rules, grind (arith, common_steps));
  bad = first_of (search rules, grind (arith, common_steps));
}

pub returns-in_err-push-2-clause-unit_judged : goal.returns-in_err-push-2-clause-unit_judged
returns-in_err-push-2-clause-unit_judged g c = record {
  found = first_of (search rules, grind (arith, common_steps));
  bad = first_of (search rules, grind (arith, common_steps));
}

pub returns-clause-unit_judged : goal.returns-clause-unit_judged
returns-clause-unit_judged g c = record {
  found = first_of (search rules, grind (arith, common_steps));
  bad = first_of (search rules, grind (arith, common_steps));
}
