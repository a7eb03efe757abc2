use Rattle.run_course.proofs.Travelled.{second-travelled}
use Rattle.run_course.proofs.second_laws.a_second_is_travelled.Goals as goal

pub returns : goal.returns
returns c = second-travelled
