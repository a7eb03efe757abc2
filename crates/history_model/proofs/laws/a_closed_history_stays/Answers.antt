use Rattle.history_model.proofs.Told.{closed-stays}
use Rattle.history_model.proofs.laws.a_closed_history_stays.Goals as goal

pub returns : goal.returns
returns c = closed-stays c.args.n
