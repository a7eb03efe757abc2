use Rattle.run_course.proofs.Steps.{breaks_off}
use Rattle.run_course.proofs.second_laws.a_second_breaks_off.Goals as goal

pub returns : goal.returns
returns c = breaks_off
