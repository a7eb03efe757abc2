use Rattle.trace_text.proofs.LinesRead.{taken-long}
use Rattle.trace_text.proofs.coming.one_behind.Goals as goal

pub returns-then-not-fits-clause-fault : goal.returns-then-not-fits-clause-fault
returns-then-not-fits-clause-fault c = λ placed more is.
    taken-long c.args.start c.args.line c.args.total placed more c.args.item is (λ within.
    let t = c.fits.ensures.1 (rw c.seconds_of-seconds.ensures within) in let f = c.if-not-fits.true in cc)
