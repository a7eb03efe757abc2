use Rattle.run_course.proofs.Kept.{nothing-else}
use Rattle.run_course.proofs.moment_laws.nothing_else_decides.Goals as goal

pub returns : goal.returns
returns c = nothing-else
