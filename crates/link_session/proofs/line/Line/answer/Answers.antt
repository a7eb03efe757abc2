use Rattle.std.proofs.lemmas.Grind.{common_steps}
use Rattle.std.proofs.Common.{◌∙◌, length-take, length-drop, arith, rules}
use Rattle.unit_messages.proofs.Calls.{any_then}
use Rattle.link_session.proofs.IfAny.{same_size}
use Rattle.unit_minutes.proofs.IfAny.{read_same}
use Rattle.link_session.proofs.Answering.{answering_none, answering_on, answering_stops, answering_kept, answering_done, still_listens, still_knows}
use Rattle.link_session.proofs.ServeFaults.{passed, passed_reads, caused_passed}
use Rattle.link_session.proofs.line.Line.answer.Goals as goal

pub loop-done-init : goal.loop-done-init
loop-done-init g c =
    (answering_none c.args.spelling c.args.bytes.now c.args.self.now (g.U.Medium.state c.args.unit.now) (g.K.Sink.held c.args.sink.now) c.requires.listens c.requires.knows, omega arith)

pub answer_next-requires-clause-some : goal.answer_next-requires-clause-some
answer_next-requires-clause-some g c = grind (arith, length-take, length-drop)

pub answer_next-requires-clause-unit : goal.answer_next-requires-clause-unit
answer_next-requires-clause-unit g c = same_size c.loop-done.invariant.0.reads ∙ c.requires.unit

pub answer_next-requires-clause-listens : goal.answer_next-requires-clause-listens
answer_next-requires-clause-listens g c = still_listens c.loop-done.invariant.0

pub answer_next-requires-clause-knows : goal.answer_next-requires-clause-knows
answer_next-requires-clause-knows g c = still_knows c.loop-done.invariant.0

pub loop-done-preserved : goal.loop-done-preserved
loop-done-preserved g c =
    let e = c.in_ok-done.ensures in (
      answering_on c.in_ok-done.field-0 c.answer_next.new.self (g.U.Medium.state c.answer_next.new.unit) (g.K.Sink.held c.answer_next.new.sink) c.loop-done.invariant.0 e.taken.1 e.kept e.answered e.knows e.goes.unit,
      omega (arith, c.loop-done.invariant.1, e.goes.counts),
    )

pub returns-in_err-done-clause-stops : goal.returns-in_err-done-clause-stops
returns-in_err-done-clause-stops g c =
    passed c.from_residual.result _ _ c.from_residual.ensures.1 (answering_stops (g.K.Sink.held c.answer_next.new.sink) _ c.loop-done.invariant.0 c.in_err-done.ensures.stops)

pub returns-in_err-done-clause-goes : goal.returns-in_err-done-clause-goes
returns-in_err-done-clause-goes g c = record {
  cause =
      caused_passed c.from_residual.result _ ⊥ ⊥ (g.K.Sink.faults c.args.sink.now) (g.K.Sink.faults c.loop-done.sink) (g.K.Sink.faults c.answer_next.new.sink) _ _ c.from_residual.ensures.1
      (λ none. none) c.loop-done.invariant.1 (read_same c.loop-done.invariant.0.reads) c.in_err-done.ensures.goes.cause;
  counts = first_of (search rules, grind (arith, common_steps));
  unit = passed_reads c.from_residual.result _ c.from_residual.ensures.1 (any_then c.loop-done.invariant.0.reads c.in_err-done.ensures.goes.unit);
}

pub returns-clause-kept : goal.returns-clause-kept
returns-clause-kept g c = answering_kept c.loop-done.invariant.0 (omega arith)

pub returns-clause-answered : goal.returns-clause-answered
returns-clause-answered g c = answering_done c.loop-done.invariant.0 (omega arith)

pub returns-clause-knows : goal.returns-clause-knows
returns-clause-knows g c = c.loop-done.invariant.0.knows

pub returns-clause-goes : goal.returns-clause-goes
returns-clause-goes g c = record {
  cause = first_of (search rules, grind (arith, common_steps));
  counts = first_of (search rules, grind (arith, common_steps));
  unit = c.loop-done.invariant.0.reads;
}
