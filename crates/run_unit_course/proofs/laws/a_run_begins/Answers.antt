use Rattle.run_unit_course.proofs.Steps.{begins}
use Rattle.run_unit_course.proofs.laws.a_run_begins.Goals as goal

pub returns : goal.returns
returns c = begins
