use Rattle.run_course.proofs.Travelled.{failure-travelled}
use Rattle.run_course.proofs.second_laws.a_failure_is_travelled.Goals as goal

pub returns : goal.returns
returns c = failure-travelled
