use Rattle.run_course.proofs.Quiet.{quiet-go-on}
use Rattle.run_course.proofs.second_laws.quiet_seconds_go_on.Goals as goal

pub returns : goal.returns
returns c = quiet-go-on
