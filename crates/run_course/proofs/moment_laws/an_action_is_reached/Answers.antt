use Rattle.run_course.proofs.Reached.{action-reached}
use Rattle.run_course.proofs.moment_laws.an_action_is_reached.Goals as goal

pub returns : goal.returns
returns c = action-reached
