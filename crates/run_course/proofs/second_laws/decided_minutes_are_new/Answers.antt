use Rattle.run_course.proofs.New.{are-new}
use Rattle.run_course.proofs.second_laws.decided_minutes_are_new.Goals as goal

pub returns : goal.returns
returns c = are-new
