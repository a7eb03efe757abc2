use Rattle.run_course.proofs.Reached.{second-reached}
use Rattle.run_course.proofs.moment_laws.a_second_is_reached.Goals as goal

pub returns : goal.returns
returns c = second-reached
