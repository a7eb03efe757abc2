use Rattle.run_course.proofs.Quiet.{quiet-caused}
use Rattle.run_course.proofs.second_laws.quiet_seconds_stay_caused.Goals as goal

pub returns : goal.returns
returns c = quiet-caused
