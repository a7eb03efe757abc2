use Rattle.run_course.proofs.Travelled.{off-travelled}
use Rattle.run_course.proofs.second_laws.an_off_line_is_travelled.Goals as goal

pub returns : goal.returns
returns c = off-travelled
