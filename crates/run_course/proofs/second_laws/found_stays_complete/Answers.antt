use Rattle.run_course.proofs.Staying.{found-stays}
use Rattle.run_course.proofs.second_laws.found_stays_complete.Goals as goal

pub returns : goal.returns
returns c = found-stays
