use Rattle.run_course.proofs.Kept.{second-fed}
use Rattle.run_course.proofs.moment_laws.the_second_is_fed.Goals as goal

pub returns : goal.returns
returns c = second-fed
