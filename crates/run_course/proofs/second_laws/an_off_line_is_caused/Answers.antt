use Rattle.run_course.proofs.Caused.{off-caused}
use Rattle.run_course.proofs.second_laws.an_off_line_is_caused.Goals as goal

pub returns : goal.returns
returns c = off-caused
