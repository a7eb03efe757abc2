use Rattle.run_course.proofs.Dark.{off-complete}
use Rattle.run_course.proofs.second_laws.off_seconds_stay_complete.Goals as goal

pub returns : goal.returns
returns c = off-complete
