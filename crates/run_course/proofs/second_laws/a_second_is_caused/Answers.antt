use Rattle.run_course.proofs.Caused.{second-caused}
use Rattle.run_course.proofs.second_laws.a_second_is_caused.Goals as goal

pub returns : goal.returns
returns c = second-caused
