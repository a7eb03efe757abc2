use Rattle.std.proofs.lemmas.Grind.{common_steps}
use Rattle.std.proofs.Common.{◌≤◌, length, arith, rules}
use Rattle.std.proofs.lemmas.Result.{IfErr-weaker}
use Rattle.link_session.proofs.Answering.{first_stopped, all_stopped, too_long_stopped}
use Rattle.link_session.proofs.ServeFaults.{passed, on_ok}
use Rattle.link_session.proofs.line.Line.answer_within.Goals as goal

pub returns-then-bytes-left-clause-few : goal.returns-then-bytes-left-clause-few
returns-then-bytes-left-clause-few g c = on_ok c.answer.result (omega arith)

pub returns-then-bytes-left-clause-stops : goal.returns-then-bytes-left-clause-stops
returns-then-bytes-left-clause-stops g c =
    let few : length c.args.bytes.now ≤ c.args.left = omega arith in
    IfErr-weaker c.answer.result _ _ (λ fault stops.
    all_stopped c.args.spelling (g.U.Medium.state c.args.unit.now).image fault c.args.self.now c.args.left c.args.bytes.now (g.K.Sink.held c.args.sink.now) (g.K.Sink.held c.answer.new.sink) few stops) c.answer.ensures.stops

pub returns-in_err-answer-clause-stops : goal.returns-in_err-answer-clause-stops
returns-in_err-answer-clause-stops g c =
    passed c.from_residual.result _ _ c.from_residual.ensures.1
    (first_stopped c.args.spelling (g.U.Medium.state c.args.unit.now).image _ c.args.self.now c.args.left c.args.bytes.now (g.K.Sink.held c.args.sink.now) (g.K.Sink.held c.answer-2.new.sink) c.in_err-answer.ensures.stops)

pub returns-clause-stops : goal.returns-clause-stops
returns-clause-stops g c = too_long_stopped c.args.spelling (g.U.Medium.state c.args.unit.now).image c.args.self.now _ c.args.left c.args.bytes.now (g.K.Sink.held c.args.sink.now) (g.K.Sink.held c.answer-2.new.sink) (omega arith) c.in_ok-answer.ensures.answered

pub returns-then-bytes-left-clause-goes : goal.returns-then-bytes-left-clause-goes
returns-then-bytes-left-clause-goes g c = record {
  cause = first_of (search rules, grind (arith, common_steps));
  counts = first_of (search rules, grind (arith, common_steps));
  unit = first_of (search rules, grind (arith, common_steps));
}

pub returns-in_err-answer-clause-goes : goal.returns-in_err-answer-clause-goes
returns-in_err-answer-clause-goes g c = record {
  cause = first_of (search rules, grind (arith, common_steps));
  counts = first_of (search rules, grind (arith, common_steps));
  unit = first_of (search rules, grind (arith, common_steps));
}

pub returns-clause-goes : goal.returns-clause-goes
returns-clause-goes g c = record {
  cause = first_of (search rules, grind (arith, common_steps));
  counts = first_of (search rules, grind (arith, common_steps));
  unit = first_of (search rules, grind (arith, common_steps));
}
