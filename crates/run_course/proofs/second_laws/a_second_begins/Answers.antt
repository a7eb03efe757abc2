use Rattle.run_course.proofs.Within.{second-begins}
use Rattle.run_course.proofs.second_laws.a_second_begins.Goals as goal

pub returns : goal.returns
returns c = second-begins
