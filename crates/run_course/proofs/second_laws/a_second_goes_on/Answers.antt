use Rattle.run_course.proofs.Steps.{goes_on}
use Rattle.run_course.proofs.second_laws.a_second_goes_on.Goals as goal

pub returns : goal.returns
returns c = goes_on
