use Rattle.run_course.proofs.Quiet.{quiet-tell}
use Rattle.run_course.proofs.second_laws.quiet_seconds_tell.Goals as goal

pub returns : goal.returns
returns c = quiet-tell
