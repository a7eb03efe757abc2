use Rattle.std.proofs.lemmas.Grind.{common_steps}
use Rattle.std.proofs.Common.{◌≡◌, true, None, IfSome, ◌∙◌, sym, ap, subst, rules, arith}
use Rattle.std.proofs.lemmas.Result.{on_ok_weaker}
use Rattle.std.specs.Prelude.{IfOk}
use Rattle.unit_memory.proofs.Told.{told_all}
use Rattle.message_model.specs.Sending.{content_sent}
use Rattle.link_frames.specs.declared.step.Step.{Step}
use Rattle.link_frames.specs.Steps.{performed, asks}
use Rattle.link_frames.specs.Sending.{reply_of}
use Rattle.link_session.specs.Told.{is_judged}
use Rattle.unit_messages.proofs.Calls.{no_call}
use Rattle.link_session.proofs.Performing.{not_asked, now_judged, if_err, begun_possibly, sent_possibly}
use Rattle.link_session.proofs.session.Session.perform.Goals as goal

pub returns-in-Answer-clause-performed : goal.returns-in-Answer-clause-performed
returns-in-Answer-clause-performed g c = told_all (g.M.Medium.state c.args.unit.now).image _ (λ x told. ap (λ (s : Step). performed (content_sent x) s) (sym c.in-Answer.is))

pub returns-in-Answer-clause-possible : goal.returns-in-Answer-clause-possible
returns-in-Answer-clause-possible g c = ((λ q. None), ap (λ (s : Step). performed (λ q. None) s) (sym c.in-Answer.is))

pub returns-in-Answer-clause-found : goal.returns-in-Answer-clause-found
returns-in-Answer-clause-found g c = record {
  judged = not_asked (is_judged c.args.self.now) (asks c.args.step) (ap (λ (s : Step). asks s) c.in-Answer.is);
  knows = first_of (search rules, grind (arith, common_steps));
}

pub returns-in-Answer-clause-reads : goal.returns-in-Answer-clause-reads
returns-in-Answer-clause-reads g c = no_call (g.M.Medium.state c.args.unit.now)

pub returns-in-Silence-clause-performed : goal.returns-in-Silence-clause-performed
returns-in-Silence-clause-performed g c = told_all (g.M.Medium.state c.args.unit.now).image _ (λ x told. ap (λ (s : Step). performed (content_sent x) s) (sym c.in-Silence.is))

pub returns-in-Silence-clause-possible : goal.returns-in-Silence-clause-possible
returns-in-Silence-clause-possible g c = ((λ q. None), ap (λ (s : Step). performed (λ q. None) s) (sym c.in-Silence.is))

pub returns-in-Silence-clause-found : goal.returns-in-Silence-clause-found
returns-in-Silence-clause-found g c = record {
  judged = not_asked (is_judged c.args.self.now) (asks c.args.step) (ap (λ (s : Step). asks s) c.in-Silence.is);
  knows = first_of (search rules, grind (arith, common_steps));
}

pub returns-in-Silence-clause-reads : goal.returns-in-Silence-clause-reads
returns-in-Silence-clause-reads g c = no_call (g.M.Medium.state c.args.unit.now)

pub returns-in-Begin-clause-performed : goal.returns-in-Begin-clause-performed
returns-in-Begin-clause-performed g c =
    subst (λ (s : Step). IfOk c.begin.result (λ reply. IfSome (g.M.Medium.state c.args.unit.now).image (λ x. reply_of reply ≡ performed (content_sent x) s))) (sym c.in-Begin.is) c.begin.ensures.begun

pub returns-in-Begin-clause-possible : goal.returns-in-Begin-clause-possible
returns-in-Begin-clause-possible g c = begun_possibly c.begin.result c.args.step c.in-Begin.request c.in-Begin.standing c.in-Begin.is c.begin.ensures.possible

pub returns-in-Begin-clause-found : goal.returns-in-Begin-clause-found
returns-in-Begin-clause-found g c = record {
  judged =
      let yes : asks c.args.step ≡ true = ap (λ (s : Step). asks s) c.in-Begin.is in
      on_ok_weaker c.begin.result (λ is. is ∙ now_judged (is_judged c.args.self.now) (asks c.args.step) yes) c.begin.ensures.asks.judged;
  knows = first_of (search rules, grind (arith, common_steps));
}

pub returns-in-Begin-clause-spared : goal.returns-in-Begin-clause-spared
returns-in-Begin-clause-spared g c =
    let yes : asks c.args.step ≡ true = ap (λ (s : Step). asks s) c.in-Begin.is in
    λ no. absurd (cc)

pub returns-in-Begin-clause-not : goal.returns-in-Begin-clause-not
returns-in-Begin-clause-not g c = record {
  silent = if_err c.begin.result (λ fault. ap (λ (s : Step). asks s) c.in-Begin.is);
  bad = c.begin.ensures.asks.bad;
}

pub returns-in-Piece-clause-performed : goal.returns-in-Piece-clause-performed
returns-in-Piece-clause-performed g c =
    subst (λ (s : Step). IfOk c.go_on.result (λ reply. IfSome (g.M.Medium.state c.args.unit.now).image (λ x. reply_of reply ≡ performed (content_sent x) s))) (sym c.in-Piece.is) c.go_on.ensures.sent

pub returns-in-Piece-clause-possible : goal.returns-in-Piece-clause-possible
returns-in-Piece-clause-possible g c = sent_possibly c.go_on.result c.args.step c.in-Piece.request c.in-Piece.counter c.in-Piece.code c.in-Piece.is c.go_on.ensures.possible

pub returns-in-Piece-clause-found : goal.returns-in-Piece-clause-found
returns-in-Piece-clause-found g c = record {
  judged =
      let yes : asks c.args.step ≡ true = ap (λ (s : Step). asks s) c.in-Piece.is in
      on_ok_weaker c.go_on.result (λ is. is ∙ now_judged (is_judged c.args.self.now) (asks c.args.step) yes) c.go_on.ensures.asks.judged;
  knows = first_of (search rules, grind (arith, common_steps));
}

pub returns-in-Piece-clause-spared : goal.returns-in-Piece-clause-spared
returns-in-Piece-clause-spared g c =
    let yes : asks c.args.step ≡ true = ap (λ (s : Step). asks s) c.in-Piece.is in
    λ no. absurd (cc)

pub returns-in-Piece-clause-not : goal.returns-in-Piece-clause-not
returns-in-Piece-clause-not g c = record {
  silent = if_err c.go_on.result (λ fault. ap (λ (s : Step). asks s) c.in-Piece.is);
  bad = c.go_on.ensures.asks.bad;
}

pub returns-in-Answer-clause-not : goal.returns-in-Answer-clause-not
returns-in-Answer-clause-not g c = record {
  silent = first_of (search rules, grind (arith, common_steps));
  bad = first_of (search rules, grind (arith, common_steps));
}

pub returns-in-Silence-clause-not : goal.returns-in-Silence-clause-not
returns-in-Silence-clause-not g c = record {
  silent = first_of (search rules, grind (arith, common_steps));
  bad = first_of (search rules, grind (arith, common_steps));
}
