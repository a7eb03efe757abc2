use Rattle.std.proofs.Common.{◌∙◌, ◌++◌, List, ap, sym, arith}
use Rattle.minute_model.specs.declared.Minute.{Minute}
use Rattle.minute_model.specs.Span.{decided_in}
use Rattle.minute_rules.specs.Kept.{decided_now, run}
use Rattle.minute_rules.proofs.GoingOn.{decided-late, given-once, run-next}
use Rattle.minute_rules.proofs.Giving.{fed-stands, fed-given}
use Rattle.minute_rules.proofs.minutes.Minutes.feed_within.Goals as goal

pub returns-clause-fed : goal.returns-clause-fed
returns-clause-fed g c = λ span h. rw (c.end_minute-decided.ensures.kept, c.run.ensures.kept) (fed-stands span c.args.self.now c.args.speed c.args.n h c.requires.minute c.requires.some)

pub returns-clause-given : goal.returns-clause-given
returns-clause-given g c = λ span h.
    fed-given span c.args.self.now c.args.speed c.args.n h c.requires.minute c.requires.some
    ∙ ap (λ (ms : List Minute). decided_in span ++ ms) (sym (given-once c.args.speed c.end_minute-decided.result.items ∙ c.end_minute-decided.ensures.given ∙ ap decided_now c.run.ensures.kept))

pub returns-clause-late : goal.returns-clause-late
returns-clause-late g c =
    let k = run c.args.n c.args.speed c.args.self.now in
    let next = run-next c.args.n c.args.speed c.args.self.now in
    rw (c.end_minute-decided.ensures.given, c.run.ensures.kept) (decided-late k 1 (omega (arith, next, c.requires.fits)))
