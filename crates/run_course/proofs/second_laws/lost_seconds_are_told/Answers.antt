use Rattle.run_course.proofs.Dark.{lost-are-told}
use Rattle.run_course.proofs.second_laws.lost_seconds_are_told.Goals as goal

pub returns : goal.returns
returns c = lost-are-told
