use Rattle.run_course.proofs.Moments.{action-more}
use Rattle.run_course.proofs.second_laws.an_action_more_is_acted.Goals as goal

pub returns : goal.returns
returns c = action-more
