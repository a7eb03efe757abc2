use Rattle.run_course.proofs.Presence.{last-cut}
use Rattle.run_course.proofs.second_laws.the_last_second_is_cut.Goals as goal

pub returns : goal.returns
returns c = last-cut
