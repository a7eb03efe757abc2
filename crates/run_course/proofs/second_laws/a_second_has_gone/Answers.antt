use Rattle.run_course.proofs.Presence.{second-gone}
use Rattle.run_course.proofs.second_laws.a_second_has_gone.Goals as goal

pub returns : goal.returns
returns c = second-gone
