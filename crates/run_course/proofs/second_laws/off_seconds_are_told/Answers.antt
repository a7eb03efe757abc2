use Rattle.run_course.proofs.Dark.{off-are-told}
use Rattle.run_course.proofs.second_laws.off_seconds_are_told.Goals as goal

pub returns : goal.returns
returns c = off-are-told
