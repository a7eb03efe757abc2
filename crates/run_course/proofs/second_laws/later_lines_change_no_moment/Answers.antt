use Rattle.run_course.proofs.Moments.{later-lines}
use Rattle.run_course.proofs.second_laws.later_lines_change_no_moment.Goals as goal

pub returns : goal.returns
returns c = later-lines
