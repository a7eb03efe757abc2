use Rattle.run_course.proofs.Kept.{nothing-marked}
use Rattle.run_course.proofs.moment_laws.nothing_is_marked_yet.Goals as goal

pub returns : goal.returns
returns c = nothing-marked
