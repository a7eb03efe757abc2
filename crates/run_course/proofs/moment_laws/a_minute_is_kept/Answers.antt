use Rattle.run_course.proofs.Kept.{minute-kept}
use Rattle.run_course.proofs.moment_laws.a_minute_is_kept.Goals as goal

pub returns : goal.returns
returns c = minute-kept
