use Rattle.std.proofs.lemmas.Grind.{common_steps}
use Rattle.std.proofs.Common.{List, ℕ, Option, sym, ◌∙◌, ap, rules, arith}
use Rattle.unit_memory.proofs.Told.{one_told, told_all}
use Rattle.link_frames.specs.Seen.{meant}
use Rattle.message_model.specs.Sending.{content_sent}
use Rattle.link_session.specs.Served.{fault_of}
use Rattle.link_session.proofs.ServeFaults.{passed, passed_reads}
use Rattle.link_session.proofs.Frames.{reply, one_silent, one_answered, one_cut, one_stopped, session_caused, session_reads}
use Rattle.link_session.proofs.line.answer_frame.Goals as goal

pub returns-in_err-answer-clause-stops : goal.returns-in_err-answer-clause-stops
returns-in_err-answer-clause-stops g c =
    passed c.from_residual.result _ _ c.from_residual.ensures.1
    (told_all (g.U.Medium.state c.args.unit.now).image _ (λ x told. one_stopped c.args.spelling _ (content_sent x) c.args.session.now.state (meant c.args.seen.now) (g.K.Sink.held c.args.sink.now) c.in_err-answer.ensures.silent))

pub returns-in_err-answer-clause-goes : goal.returns-in_err-answer-clause-goes
returns-in_err-answer-clause-goes g c = record {
  cause = passed c.from_residual.result _ _ c.from_residual.ensures.1 (session_caused _ _ _ _ _ c.in_err-answer.ensures.bad);
  counts = first_of (search rules, grind (arith, common_steps));
  unit =
      let fault = c.in_err-answer.field-0.0 in
      passed_reads c.from_residual.result (fault_of fault) c.from_residual.ensures.1 (session_reads fault c.in_err-answer.ensures.reads);
}

pub returns-in_default-clause-answered : goal.returns-in_default-clause-answered
returns-in_default-clause-answered g c =
    let after = c.answer.new.self.state in
    one_told (g.U.Medium.state c.args.unit.now).image _ c.in_ok-answer.ensures.answered (λ x is.
    one_silent c.args.spelling (content_sent x) c.args.session.now.state after (meant c.args.seen.now) (g.K.Sink.held c.args.sink.now) (sym (ap (λ (o : Option (List ℕ)). reply o after) c.in_default.is) ∙ is))

pub returns-in-Ok-clause-answered : goal.returns-in-Ok-clause-answered
returns-in-Ok-clause-answered g c =
    let after = c.answer.new.self.state in
    let h = g.K.Sink.held c.args.sink.now in
    let k = g.K.Sink.held c.put_frame.new.sink in
    one_told (g.U.Medium.state c.args.unit.now).image _ c.in_ok-answer.ensures.answered (λ x is.
    one_answered c.args.spelling (content_sent x) c.args.session.now.state after (meant c.args.seen.now) c.in-Some.frame h k (sym (ap (λ (o : Option (List ℕ)). reply o after) c.in-Some.is) ∙ is) c.in-Ok.ensures.ok)

pub returns-in-Err-clause-stops : goal.returns-in-Err-clause-stops
returns-in-Err-clause-stops g c =
    let after = c.answer.new.self.state in
    let h = g.K.Sink.held c.args.sink.now in
    let k = g.K.Sink.held c.put_frame.new.sink in
    one_told (g.U.Medium.state c.args.unit.now).image _ c.in_ok-answer.ensures.answered (λ x is.
    one_cut c.args.spelling (content_sent x) c.args.session.now.state after (meant c.args.seen.now) c.in-Some.frame h k (sym (ap (λ (o : Option (List ℕ)). reply o after) c.in-Some.is) ∙ is) c.in-Err.ensures.err)

pub returns-in_default-clause-goes : goal.returns-in_default-clause-goes
returns-in_default-clause-goes g c = record {
  cause = first_of (search rules, grind (arith, common_steps));
  counts = first_of (search rules, grind (arith, common_steps));
  unit = first_of (search rules, grind (arith, common_steps));
}

pub returns-in-Ok-clause-goes : goal.returns-in-Ok-clause-goes
returns-in-Ok-clause-goes g c = record {
  cause = first_of (search rules, grind (arith, common_steps));
  counts = first_of (search rules, grind (arith, common_steps));
  unit = first_of (search rules, grind (arith, common_steps));
}

pub returns-in-Err-clause-goes : goal.returns-in-Err-clause-goes
returns-in-Err-clause-goes g c = record {
  cause = first_of (search rules, grind (arith, common_steps));
  counts = first_of (search rules, grind (arith, common_steps));
  unit = first_of (search rules, grind (arith, common_steps));
}
