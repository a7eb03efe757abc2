use Rattle.run_course.proofs.Caused.{run-caused}
use Rattle.run_course.proofs.second_laws.a_run_is_caused.Goals as goal

pub returns : goal.returns
returns c = run-caused
