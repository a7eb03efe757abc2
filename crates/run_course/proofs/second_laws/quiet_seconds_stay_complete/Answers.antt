use Rattle.run_course.proofs.Quiet.{quiet-complete}
use Rattle.run_course.proofs.second_laws.quiet_seconds_stay_complete.Goals as goal

pub returns : goal.returns
returns c = quiet-complete
