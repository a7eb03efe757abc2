use Rattle.run_course.proofs.Caused.{off-cut-caused}
use Rattle.run_course.proofs.second_laws.an_off_cut_is_caused.Goals as goal

pub returns : goal.returns
returns c = off-cut-caused
