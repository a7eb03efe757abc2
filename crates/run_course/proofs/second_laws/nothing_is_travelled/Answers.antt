use Rattle.run_course.proofs.Travelled.{nothing-travelled}
use Rattle.run_course.proofs.second_laws.nothing_is_travelled.Goals as goal

pub returns : goal.returns
returns c = nothing-travelled
