use Rattle.unit_messages.proofs.Pieces.{cut_at, cut_long}
use Rattle.unit_messages.proofs.joining.split_at.Goals as goal

pub returns-clause-cut : goal.returns-clause-cut
returns-clause-cut c = λ content long. cut_at content c.args.len c.args.counter c.min.result long c.min.ensures

pub returns-clause-some : goal.returns-clause-some
returns-clause-some c = λ content long. cut_long content c.args.len c.args.counter c.min.result long c.min.ensures
