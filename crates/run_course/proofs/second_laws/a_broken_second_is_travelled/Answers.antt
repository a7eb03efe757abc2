use Rattle.run_course.proofs.Travelled.{broken-travelled}
use Rattle.run_course.proofs.second_laws.a_broken_second_is_travelled.Goals as goal

pub returns : goal.returns
returns c = broken-travelled
