use Rattle.run_course.proofs.Kept.{all-acknowledged}
use Rattle.run_course.proofs.moment_laws.all_are_acknowledged.Goals as goal

pub returns : goal.returns
returns c = all-acknowledged
