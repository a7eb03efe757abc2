use Rattle.log_model.proofs.Growth.{went-same}
use Rattle.log_model.proofs.laws.later_lines_change_nothing.Goals as goal

pub returns : goal.returns
returns c = went-same
