use Rattle.run_course.proofs.Within.{second-ends}
use Rattle.run_course.proofs.second_laws.a_second_ends.Goals as goal

pub returns : goal.returns
returns c = second-ends
