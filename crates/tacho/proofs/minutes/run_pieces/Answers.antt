use Rattle.std.proofs.Common.{◌≡◌, ◌∙◌, ℕ, ◌+◌, ◌-◌, ap, sym, arith}
use Rattle.minute_model.specs.Span.{Span, fed_many, decided_in}
use Rattle.minute_model.proofs.Spans.{fed_many-parts}
use Rattle.tacho.specs.Minutes.{lines_shown}
use Rattle.tacho.proofs.minutes.run_pieces.Goals as goal

pub loop-left-init : goal.loop-left-init
loop-left-init g c =
    let e : c.args.seconds - c.args.seconds ≡ 0 = omega arith in
    record {
      most = omega arith;
      next = omega arith;
      stands = λ span h. rw e h;
      lines = λ span h given. rw e given;
    }

pub loop-left-preserved : goal.loop-left-preserved
loop-left-preserved g c =
    let v = c.loop-left.invariant in
    let n : ℕ = c.feed_long-alike.result.seconds in
    let some = c.feed_long-alike.ensures.seconds in
    let done : ℕ = c.args.seconds - c.loop-left.left in
    let e : done + n ≡ c.args.seconds - (c.loop-left.left - n) = omega (arith, v.most, some.1) in
    let later : (span : Span) → fed_many (fed_many span c.args.speed done) c.args.speed n ≡ fed_many span c.args.speed (c.args.seconds - (c.loop-left.left - n)) = λ span. fed_many-parts span c.args.speed done n ∙ ap (fed_many span c.args.speed) e in
    record {
      most = omega (arith, v.most);
      next = omega (arith, v.next, c.feed_long-alike.ensures.next, some.1);
      stands = λ span h. rw (← later span) (c.feed_long-alike.ensures.fed (fed_many span c.args.speed done) (v.stands span h));
      lines = λ span h given.
          let now = fed_many span c.args.speed done in
          let more = c.feed_long-alike.ensures.given now (v.stands span h) in
          rw (← later span) (
          c.in_ok-show.ensures c.args.speed (decided_in now) (v.lines span h given)
          ∙ ap lines_shown (sym more));
    }

pub returns-clause-stands : goal.returns-clause-stands
returns-clause-stands g c = λ span h.
    let e : c.args.seconds - c.loop-left.left ≡ c.args.seconds = omega (arith, c.loop-left-test.false) in
    rw e at (c.loop-left.invariant.stands span h)
