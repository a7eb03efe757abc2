use Rattle.run_course.proofs.Travelled.{found-travelled}
use Rattle.run_course.proofs.second_laws.found_is_travelled.Goals as goal

pub returns : goal.returns
returns c = found-travelled
