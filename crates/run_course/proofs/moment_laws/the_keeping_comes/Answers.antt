use Rattle.run_course.proofs.Telling.{keeping-comes}
use Rattle.run_course.proofs.moment_laws.the_keeping_comes.Goals as goal

pub returns : goal.returns
returns c = keeping-comes
