use Rattle.run_course.proofs.Quiet.{quiet-travelled}
use Rattle.run_course.proofs.second_laws.quiet_seconds_stay_travelled.Goals as goal

pub returns : goal.returns
returns c = quiet-travelled
