use Rattle.std.proofs.Common.{List, ◌++◌, ◌∙◌, ap, sym, arith}
use Rattle.minute_model.specs.declared.Minute.{Minute}
use Rattle.minute_model.specs.Span.{decided_in}
use Rattle.minute_rules.specs.Kept.{decided_now}
use Rattle.minute_rules.proofs.Giving.{fed-stands, fed-given}
use Rattle.minute_rules.proofs.minutes.Minutes.feed_run.Goals as goal

pub returns-clause-fed : goal.returns-clause-fed
returns-clause-fed g c = λ span h. rw (c.end_minute.ensures.kept, c.run.ensures.kept) (fed-stands span c.args.self.now c.args.speed c.args.n h c.requires.minute (omega (arith, c.if-n-eq0.false)))

pub returns-clause-given : goal.returns-clause-given
returns-clause-given g c = λ span h.
    fed-given span c.args.self.now c.args.speed c.args.n h c.requires.minute (omega (arith, c.if-n-eq0.false))
    ∙ ap (λ (ms : List Minute). decided_in span ++ ms) (sym (c.end_minute.ensures.given ∙ ap decided_now c.run.ensures.kept))
