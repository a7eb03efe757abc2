use Rattle.run_course.proofs.Steps.{off_dark}
use Rattle.run_course.proofs.second_laws.an_off_line_is_dark.Goals as goal

pub returns : goal.returns
returns c = off_dark
