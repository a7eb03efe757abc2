use Rattle.run_course.proofs.Reached.{keeping-reached}
use Rattle.run_course.proofs.moment_laws.the_keeping_is_reached.Goals as goal

pub returns : goal.returns
returns c = keeping-reached
