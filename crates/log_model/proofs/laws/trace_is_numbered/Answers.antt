use Rattle.log_model.proofs.Spanning.{seconds-order}
use Rattle.log_model.proofs.laws.trace_is_numbered.Goals as goal

pub returns : goal.returns
returns c = seconds-order c.args.start
