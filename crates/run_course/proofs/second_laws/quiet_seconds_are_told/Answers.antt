use Rattle.run_course.proofs.Quiet.{quiet-are-told}
use Rattle.run_course.proofs.second_laws.quiet_seconds_are_told.Goals as goal

pub returns : goal.returns
returns c = quiet-are-told
