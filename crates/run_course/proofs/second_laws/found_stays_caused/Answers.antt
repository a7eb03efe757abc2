use Rattle.run_course.proofs.Caused.{found-caused}
use Rattle.run_course.proofs.second_laws.found_stays_caused.Goals as goal

pub returns : goal.returns
returns c = found-caused
