use Rattle.std.proofs.Common.{◌∙◌, sym}
use Rattle.event_rules.proofs.Fast.{fed-on, given-on, fed-off, given-off}
use Rattle.event_rules.proofs.speeding.Overspeed.feed_run.Goals as goal

pub returns-then-is_above-clause-fed : goal.returns-then-is_above-clause-fed
returns-then-is_above-clause-fed c = λ seconds h.
    rw c.grow.ensures.kept (fed-on c.args.self.now seconds h c.args.second c.args.n c.args.speed (sym c.is_above.ensures ∙ c.if-is_above.true) c.requires.next c.requires.some)

pub returns-then-is_above-clause-given : goal.returns-then-is_above-clause-given
returns-then-is_above-clause-given c = λ seconds h.
    given-on c.args.self.now seconds h c.args.second c.args.n c.args.speed (sym c.is_above.ensures ∙ c.if-is_above.true)

pub returns-clause-fed : goal.returns-clause-fed
returns-clause-fed c = λ seconds h.
    rw c.end.ensures.kept (fed-off c.args.self.now seconds h c.args.second c.args.n c.args.speed (sym c.is_above.ensures ∙ c.if-is_above.false) c.requires.some)

pub returns-clause-given : goal.returns-clause-given
returns-clause-given c = λ seconds h.
    rw c.end.ensures.value (given-off c.args.self.now seconds h c.args.second c.args.n c.args.speed (sym c.is_above.ensures ∙ c.if-is_above.false) c.requires.some)
