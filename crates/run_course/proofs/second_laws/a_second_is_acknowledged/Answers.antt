use Rattle.run_course.proofs.Complete.{acknowledged}
use Rattle.run_course.proofs.second_laws.a_second_is_acknowledged.Goals as goal

pub returns : goal.returns
returns c = acknowledged
