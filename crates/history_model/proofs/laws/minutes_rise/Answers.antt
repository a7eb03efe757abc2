use Rattle.history_model.proofs.Told.{rises}
use Rattle.history_model.proofs.laws.minutes_rise.Goals as goal

pub returns : goal.returns
returns c = rises c.args.n
