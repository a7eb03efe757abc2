use Rattle.run_course.proofs.Steps.{off_cuts}
use Rattle.run_course.proofs.second_laws.an_off_line_cuts.Goals as goal

pub returns : goal.returns
returns c = off_cuts
