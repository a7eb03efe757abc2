use Rattle.std.proofs.lemmas.Grind.{common_steps}
use Rattle.std.proofs.Common.{length, arith, rules}
use Rattle.text_fields.specs.Pieces.{pieces_behind}
use Rattle.unit_messages.proofs.Calls.{any_then}
use Rattle.link_session.proofs.ServeFaults.{passed}
use Rattle.link_session.proofs.Taking.{smaller_behind, size_is, taking_start, start_out, taking_on, on_out, taking_stops}
use Rattle.link_session.proofs.LinesFaults.{lines_reads}
use Rattle.link_session.proofs.lines.Lines.take.Goals as goal

pub returns-in_err-keep-clause-stops : goal.returns-in_err-keep-clause-stops
returns-in_err-keep-clause-stops g c =
    let r = c.requires in
    passed c.from_residual.result _ _ c.from_residual.ensures.1
    (start_out c.args.self.now c.args.text.now c.first_piece.result.0.now (pieces_behind 10 c.first_piece.result.1) (g.U.Medium.state c.args.unit.now) (g.K.Sink.held c.args.sink.now) _ r.one c.first_piece.ensures.pieces r.listens c.in_err-keep.ensures.memory)

pub loop-behind-init : goal.loop-behind-init
loop-behind-init g c =
    let r = c.requires in
    let k = c.in_ok-keep.ensures in
    let started = taking_start c.args.self.now c.keep.new.self c.args.text.now c.first_piece.result.0.now (pieces_behind 10 c.first_piece.result.1) (g.U.Medium.state c.args.unit.now) (g.K.Sink.held c.args.sink.now)
    r.one c.first_piece.ensures.pieces r.listens r.knows k.text k.line k.whole in
    let few = smaller_behind c.first_piece.result.1 (length c.args.text.now) c.first_piece.ensures.shorter in
    (started, omega arith, omega (arith, k.whole, few))

pub returns-in_err-end_line-clause-stops : goal.returns-in_err-end_line-clause-stops
returns-in_err-end_line-clause-stops g c =
    passed c.from_residual-in_err-end_line.result _ _ c.from_residual-in_err-end_line.ensures.1
    (taking_stops c.loop-behind.behind c.in-Some.rest _ (g.K.Sink.held c.end_line.new.sink) c.loop-behind.invariant.0 c.in-Some.is c.in_err-end_line.ensures.stops)

pub returns-in_err-end_line-clause-goes : goal.returns-in_err-end_line-clause-goes
returns-in_err-end_line-clause-goes g c = record {
  cause = first_of (search rules, grind (arith, common_steps));
  counts = first_of (search rules, grind (arith, common_steps));
  unit = lines_reads c.from_residual-in_err-end_line.result _ c.from_residual-in_err-end_line.ensures.1 (any_then c.loop-behind.invariant.0.reads c.in_err-end_line.ensures.goes.unit);
}

pub returns-in_err-keep-2-clause-stops : goal.returns-in_err-keep-2-clause-stops
returns-in_err-keep-2-clause-stops g c =
    passed c.from_residual-in_err-keep-2.result _ _ c.from_residual-in_err-keep-2.ensures.1
    (on_out c.loop-behind.behind c.in-Some.rest (pieces_behind 10 c.first_piece-in-Some.result.1) c.first_piece-in-Some.result.0.now c.end_line.new.self (g.K.Sink.held c.end_line.new.sink) _ c.loop-behind.invariant.0 c.in-Some.is
    c.in_ok-end_line.ensures.heard c.first_piece-in-Some.ensures.pieces c.in_err-keep-2.ensures.memory)

pub loop-behind-preserved : goal.loop-behind-preserved
loop-behind-preserved g c =
    let e = c.in_ok-end_line.ensures in
    let k = c.in_ok-keep-2.ensures in
    let on = taking_on c.loop-behind.behind c.in-Some.rest (pieces_behind 10 c.first_piece-in-Some.result.1) c.first_piece-in-Some.result.0.now c.end_line.new.self c.keep-in-Some.new.self (g.U.Medium.state c.end_line.new.unit) (g.K.Sink.held c.end_line.new.sink)
    c.loop-behind.invariant.0 c.in-Some.is e.heard c.first_piece-in-Some.ensures.pieces e.text e.whole e.knows e.goes.unit k.text k.line k.whole in
    let few = smaller_behind c.first_piece-in-Some.result.1 (length c.in-Some.rest.now) c.first_piece-in-Some.ensures.shorter in
    let size = size_is c.loop-behind.behind c.in-Some.rest c.in-Some.is in
    (on, omega (arith, c.loop-behind.invariant.1, e.goes.counts), omega (arith, c.loop-behind.invariant.2, k.whole, e.whole, few, size))

pub returns-in_err-keep-clause-goes : goal.returns-in_err-keep-clause-goes
returns-in_err-keep-clause-goes g c = record {
  cause = first_of (search rules, grind (arith, common_steps));
  counts = first_of (search rules, grind (arith, common_steps));
  unit = first_of (search rules, grind (arith, common_steps));
}

pub returns-in_err-keep-2-clause-goes : goal.returns-in_err-keep-2-clause-goes
returns-in_err-keep-2-clause-goes g c = record {
  cause = first_of (search rules, grind (arith, common_steps));
  counts = first_of (search rules, grind (arith, common_steps));
  unit = first_of (search rules, grind (arith, common_steps));
}

pub returns-clause-goes : goal.returns-clause-goes
returns-clause-goes g c = record {
  cause = first_of (search rules, grind (arith, common_steps));
  counts = first_of (search rules, grind (arith, common_steps));
  unit = first_of (search rules, grind (arith, common_steps));
}
