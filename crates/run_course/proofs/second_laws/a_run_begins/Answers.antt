use Rattle.run_course.proofs.Steps.{begins_run}
use Rattle.run_course.proofs.second_laws.a_run_begins.Goals as goal

pub returns : goal.returns
returns c = begins_run
