use Rattle.run_course.proofs.Telling.{second-ends_told}
use Rattle.run_course.proofs.moment_laws.the_second_ends.Goals as goal

pub returns : goal.returns
returns c = second-ends_told
