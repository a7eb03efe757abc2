use Rattle.log_model.proofs.Growth.{went-more}
use Rattle.log_model.proofs.laws.goes_on_by_seconds.Goals as goal

pub returns : goal.returns
returns c = went-more
