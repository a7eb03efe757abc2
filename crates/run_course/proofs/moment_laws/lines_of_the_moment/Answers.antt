use Rattle.run_course.proofs.Reached.{lines-reached}
use Rattle.run_course.proofs.moment_laws.lines_of_the_moment.Goals as goal

pub returns : goal.returns
returns c = lines-reached
