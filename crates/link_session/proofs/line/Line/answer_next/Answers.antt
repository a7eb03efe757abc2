use Rattle.std.proofs.lemmas.Grind.{common_steps}
use Rattle.std.proofs.Common.{◌≡◌, List, length, take, sym, subst, arith, rules}
use Rattle.unit_memory.proofs.Told.{told_all}
use Rattle.link_model.specs.Frames.{Heard}
use Rattle.link_frames.specs.Seen.{meant}
use Rattle.message_model.specs.Sending.{content_sent}
use Rattle.link_session.specs.Lines.{IsAnswered}
use Rattle.link_session.proofs.Joined.{none_answered}
use Rattle.link_session.proofs.Feeding.{kept_by, heard_none, heard_one, none_is, some_taken, stopped_at, answered_at}
use Rattle.link_session.proofs.ServeFaults.{passed}
use Rattle.link_session.proofs.line.Line.answer_next.Goals as goal

pub returns-in_default-clause-taken : goal.returns-in_default-clause-taken
returns-in_default-clause-taken g c =
    let all : c.feed-taken.result.0 ≡ length c.args.bytes.now = none_is c.feed-taken.result.1 c.in_default.is c.feed-taken.ensures.all in
    (omega (arith, all, c.requires.some), omega (arith, all))

pub returns-in_default-clause-kept : goal.returns-in_default-clause-kept
returns-in_default-clause-kept g c = kept_by c.args.self.now.scanner c.feed-taken.new.self (take c.feed-taken.result.0 c.args.bytes.now) c.requires.listens c.feed-taken.ensures.kept

pub returns-in_default-clause-answered : goal.returns-in_default-clause-answered
returns-in_default-clause-answered g c =
    let line = c.args.self.now in
    let h = g.K.Sink.held c.args.sink.now in
    let none = heard_none line.scanner (take c.feed-taken.result.0 c.args.bytes.now) c.feed-taken.result.1 c.requires.listens c.feed-taken.ensures.heard c.in_default.is in
    told_all (g.U.Medium.state c.args.unit.now).image _ (λ x told.
    subst (λ (seen : List Heard). IsAnswered c.args.spelling (content_sent x) line.session.state seen line.session.state h h) (sym none) (none_answered c.args.spelling (content_sent x) line.session.state h))

pub returns-in_err-answer_frame-clause-stops : goal.returns-in_err-answer_frame-clause-stops
returns-in_err-answer_frame-clause-stops g c =
    let line = c.args.self.now in
    let one = heard_one line.scanner (take c.feed-taken.result.0 c.args.bytes.now) c.feed-taken.result.1 c.in-Some.seen c.requires.listens c.feed-taken.ensures.heard c.in-Some.is in
    passed c.from_residual.result _ _ c.from_residual.ensures.1
    (stopped_at c.args.spelling (g.U.Medium.state c.args.unit.now).image _ line c.args.bytes.now c.feed-taken.result.0 (meant c.in-Some.seen) (g.K.Sink.held c.args.sink.now) (g.K.Sink.held c.answer_frame.new.sink) one c.in_err-answer_frame.ensures.stops)

pub returns-clause-taken : goal.returns-clause-taken
returns-clause-taken g c =
    let line = c.args.self.now in
    let one = heard_one line.scanner (take c.feed-taken.result.0 c.args.bytes.now) c.feed-taken.result.1 c.in-Some.seen c.requires.listens c.feed-taken.ensures.heard c.in-Some.is in
    (some_taken c.feed-taken.result.0 line.scanner.kept c.args.bytes.now (meant c.in-Some.seen) one, c.feed-taken.ensures.taken)

pub returns-clause-kept : goal.returns-clause-kept
returns-clause-kept g c = kept_by c.args.self.now.scanner c.feed-taken.new.self (take c.feed-taken.result.0 c.args.bytes.now) c.requires.listens c.feed-taken.ensures.kept

pub returns-clause-answered : goal.returns-clause-answered
returns-clause-answered g c =
    let line = c.args.self.now in
    let one = heard_one line.scanner (take c.feed-taken.result.0 c.args.bytes.now) c.feed-taken.result.1 c.in-Some.seen c.requires.listens c.feed-taken.ensures.heard c.in-Some.is in
    answered_at c.args.spelling (g.U.Medium.state c.args.unit.now).image line.session.state c.answer_frame.new.session.state _ _ (g.K.Sink.held c.args.sink.now) (g.K.Sink.held c.answer_frame.new.sink) (sym one) c.in_ok-answer_frame.ensures.answered

pub returns-in_default-clause-goes : goal.returns-in_default-clause-goes
returns-in_default-clause-goes g c = record {
  cause = first_of (search rules, grind (arith, common_steps));
  counts = first_of (search rules, grind (arith, common_steps));
  unit = first_of (search rules, grind (arith, common_steps));
}

pub returns-in_err-answer_frame-clause-goes : goal.returns-in_err-answer_frame-clause-goes
returns-in_err-answer_frame-clause-goes g c = record {
  cause = first_of (search rules, grind (arith, common_steps));
  counts = first_of (search rules, grind (arith, common_steps));
  unit = first_of (search rules, grind (arith, common_steps));
}

pub returns-clause-goes : goal.returns-clause-goes
returns-clause-goes g c = record {
  cause = first_of (search rules, grind (arith, common_steps));
  counts = first_of (search rules, grind (arith, common_steps));
  unit = first_of (search rules, grind (arith, common_steps));
}
