use Rattle.event_rules.proofs.Without.{fed-on, given-on, fed-off, given-off}
use Rattle.event_rules.proofs.bare.NoCardRun.feed_run.Goals as goal

pub returns-then-bare-clause-fed : goal.returns-then-bare-clause-fed
returns-then-bare-clause-fed c = λ seconds h.
    rw (c.if-bare.true, c.grow.ensures.kept) (fed-on c.args.self.now seconds h c.args.second c.args.n c.requires.next c.requires.some)

pub returns-then-bare-clause-given : goal.returns-then-bare-clause-given
returns-then-bare-clause-given c = λ seconds h.
    rw c.if-bare.true (given-on c.args.self.now seconds h c.args.second c.args.n)

pub returns-clause-fed : goal.returns-clause-fed
returns-clause-fed c = λ seconds h.
    rw (c.if-bare.false, c.end.ensures.kept) (fed-off c.args.self.now seconds h c.args.second c.args.n c.requires.some)

pub returns-clause-given : goal.returns-clause-given
returns-clause-given c = λ seconds h.
    rw (c.if-bare.false, c.end.ensures.value) (given-off c.args.self.now seconds h c.args.second c.args.n c.requires.some)
