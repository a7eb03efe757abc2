use Rattle.run_course.proofs.Moment.{action-refused}
use Rattle.run_course.proofs.moment_laws.an_action_is_refused.Goals as goal

pub returns : goal.returns
returns c = action-refused
