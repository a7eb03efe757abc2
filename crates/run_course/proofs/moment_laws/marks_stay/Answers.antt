use Rattle.run_course.proofs.Kept.{marks-stay}
use Rattle.run_course.proofs.moment_laws.marks_stay.Goals as goal

pub returns : goal.returns
returns c = marks-stay
