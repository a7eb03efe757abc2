use Rattle.run_course.proofs.Kept.{second-decided}
use Rattle.run_course.proofs.moment_laws.the_second_has_decided.Goals as goal

pub returns : goal.returns
returns c = second-decided
