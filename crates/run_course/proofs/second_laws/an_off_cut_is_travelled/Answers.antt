use Rattle.run_course.proofs.Travelled.{off-cut-travelled}
use Rattle.run_course.proofs.second_laws.an_off_cut_is_travelled.Goals as goal

pub returns : goal.returns
returns c = off-cut-travelled
