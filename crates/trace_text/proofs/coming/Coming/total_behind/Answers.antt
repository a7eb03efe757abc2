use Rattle.std.proofs.Common.{◌++◌}
use Rattle.trace_text.specs.Trace.{put_in}
use Rattle.trace_text.proofs.LinesRead.{off-fault}
use Rattle.trace_text.proofs.coming.Coming.total_behind.Goals as goal

pub returns-in-Off-clause-fault : goal.returns-in-Off-clause-fault
returns-in-Off-clause-fault c = λ placed more is.
    off-fault c.args.start c.args.line c.in-Off.seconds placed more c.args.self.now.waiting c.args.item c.one_behind.result c.in-Off.is (c.one_behind.ensures.fault (placed ++ put_in c.args.self.now.waiting) more (c.in_ok-total.ensures.ok placed is))
