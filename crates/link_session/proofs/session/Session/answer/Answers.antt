use Rattle.std.proofs.lemmas.Grind.{common_steps}
use Rattle.std.proofs.Common.{◌≡◌, Bool, sym, ◌∙◌, ap, rules, arith}
use Rattle.std.specs.Prelude.{◌||◌}
use Rattle.unit_memory.proofs.Told.{one_told}
use Rattle.link_model.specs.Answers.{answered}
use Rattle.link_frames.specs.Seen.{meant}
use Rattle.message_model.specs.Sending.{content_sent}
use Rattle.link_frames.specs.Asking.{asks_unit}
use Rattle.link_frames.specs.Steps.{asks}
use Rattle.link_session.specs.Told.{SessionView, is_judged}
use Rattle.link_session.proofs.Knowing.{as_found}
use Rattle.link_session.proofs.AnswerFaults.{passed, passed_reads}
use Rattle.link_session.proofs.Performing.{if_err}
use Rattle.link_session.proofs.session.Session.answer.Goals as goal

pub returns-in_err-reply-clause-bad : goal.returns-in_err-reply-clause-bad
returns-in_err-reply-clause-bad g c = passed c.from_residual.result _ _ c.from_residual.ensures.1 c.in_err-reply.ensures.not.bad

pub returns-in_err-reply-clause-reads : goal.returns-in_err-reply-clause-reads
returns-in_err-reply-clause-reads g c = passed_reads c.from_residual.result _ c.from_residual.ensures.1 c.in_err-reply.ensures.reads

pub returns-in_err-reply-clause-spared : goal.returns-in_err-reply-clause-spared
returns-in_err-reply-clause-spared g c =
    let asks_is : asks c.step_of-step.result ≡ asks_unit c.args.self.now.state (meant c.args.seen.now) =
    c.step_of-step.ensures.asks ∙ ap (λ (v : SessionView). asks_unit v.state (meant c.args.seen.now)) c.self.view_is in
    λ no. c.perform.ensures.spared (asks_is ∙ no)

pub returns-in_err-reply-clause-silent : goal.returns-in_err-reply-clause-silent
returns-in_err-reply-clause-silent g c =
    let asks_is : asks c.step_of-step.result ≡ asks_unit c.args.self.now.state (meant c.args.seen.now) =
    c.step_of-step.ensures.asks ∙ ap (λ (v : SessionView). asks_unit v.state (meant c.args.seen.now)) c.self.view_is in
    if_err c.from_residual.result (λ fault. sym asks_is ∙ c.in_err-reply.ensures.not.silent)

pub returns-clause-answered : goal.returns-clause-answered
returns-clause-answered g c =
    one_told (g.M.Medium.state c.args.unit.now).image _ c.in_ok-reply.ensures.performed (λ x is.
    is ∙ c.step_of-step.ensures.performs (content_sent x) ∙ ap (λ (v : SessionView). answered (content_sent x) v.state (meant c.args.seen.now)) c.self.view_is)

pub returns-clause-possible : goal.returns-clause-possible
returns-clause-possible g c =
    let p = c.in_ok-reply.ensures.possible in
    (p.0, p.1 ∙ c.step_of-step.ensures.performs p.0 ∙ ap (λ (v : SessionView). answered p.0 v.state (meant c.args.seen.now)) c.self.view_is)

pub returns-clause-found : goal.returns-clause-found
returns-clause-found g c = record {
  judged =
      let asks_is : asks c.step_of-step.result ≡ asks_unit c.args.self.now.state (meant c.args.seen.now) =
      c.step_of-step.ensures.asks ∙ ap (λ (v : SessionView). asks_unit v.state (meant c.args.seen.now)) c.self.view_is in
      ap (λ (v : SessionView). is_judged v) c.self-2.view_is ∙ c.in_ok-reply.ensures.found.judged ∙ ap (λ (b : Bool). is_judged c.args.self.now || b) asks_is;
  knows = as_found _ _ _ c.self-2.view_is c.in_ok-reply.ensures.found.knows;
}

pub returns-clause-spared : goal.returns-clause-spared
returns-clause-spared g c =
    let asks_is : asks c.step_of-step.result ≡ asks_unit c.args.self.now.state (meant c.args.seen.now) =
    c.step_of-step.ensures.asks ∙ ap (λ (v : SessionView). asks_unit v.state (meant c.args.seen.now)) c.self.view_is in
    λ no. c.perform.ensures.spared (asks_is ∙ no)

pub returns-in_err-reply-clause-found : goal.returns-in_err-reply-clause-found
returns-in_err-reply-clause-found g c = record {
  judged = first_of (search rules, grind (arith, common_steps));
  knows = first_of (search rules, grind (arith, common_steps));
}
