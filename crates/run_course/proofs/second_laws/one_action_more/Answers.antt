use Rattle.run_course.proofs.Moments.{one-more}
use Rattle.run_course.proofs.second_laws.one_action_more.Goals as goal

pub returns : goal.returns
returns c = one-more
