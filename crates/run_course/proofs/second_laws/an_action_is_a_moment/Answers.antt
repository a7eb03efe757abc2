use Rattle.run_course.proofs.Within.{action-moment}
use Rattle.run_course.proofs.second_laws.an_action_is_a_moment.Goals as goal

pub returns : goal.returns
returns c = action-moment
