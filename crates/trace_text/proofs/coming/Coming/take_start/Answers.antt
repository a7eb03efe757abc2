use Rattle.trace_text.proofs.LinesRead.{start-bad, read-start}
use Rattle.trace_text.proofs.coming.Coming.take_start.Goals as goal

pub returns-in_default-clause-fault : goal.returns-in_default-clause-fault
returns-in_default-clause-fault c = λ lines behind items is.
    start-bad lines behind items c.args.line.now c.args.self.now is c.requires.first c.requires.counted c.in_default.ensures.none

pub returns-clause-ok : goal.returns-clause-ok
returns-clause-ok c = λ lines items is.
    read-start lines items c.args.line.now c.args.self.now c.in-Some.start is c.requires.first c.requires.counted c.in-Some.ensures.found
