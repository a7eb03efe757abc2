use Rattle.run_course.proofs.Kept.{settling-decides}
use Rattle.run_course.proofs.moment_laws.a_settling_decides.Goals as goal

pub returns : goal.returns
returns c = settling-decides
