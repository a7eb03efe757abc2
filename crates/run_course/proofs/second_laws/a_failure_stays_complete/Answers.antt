use Rattle.run_course.proofs.Staying.{failure-stays}
use Rattle.run_course.proofs.second_laws.a_failure_stays_complete.Goals as goal

pub returns : goal.returns
returns c = failure-stays
