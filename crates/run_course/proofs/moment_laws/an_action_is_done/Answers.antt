use Rattle.run_course.proofs.Moment.{action-done}
use Rattle.run_course.proofs.moment_laws.an_action_is_done.Goals as goal

pub returns : goal.returns
returns c = action-done
