use Rattle.trace_text.proofs.LinesRead.{item-bad}
use Rattle.trace_text.proofs.coming.Coming.take_item.Goals as goal

pub returns-in_default-clause-fault : goal.returns-in_default-clause-fault
returns-in_default-clause-fault c = λ lines behind items is.
    item-bad lines behind items c.args.line.now c.args.self.now c.args.start is c.requires.later c.requires.counted c.in_default.ensures.none

pub returns-clause-fault : goal.returns-clause-fault
returns-clause-fault c = λ lines behind items is. c.take_read.ensures.fault lines behind items c.args.line.now c.requires.counted c.in-Some.ensures.found is

pub returns-clause-ok : goal.returns-clause-ok
returns-clause-ok c = λ lines items is. c.take_read.ensures.ok lines items c.args.line.now c.requires.counted c.in-Some.ensures.found is
