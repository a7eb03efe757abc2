use Rattle.run_course.proofs.Complete.{nothing-yet}
use Rattle.run_course.proofs.second_laws.nothing_is_decided_yet.Goals as goal

pub returns : goal.returns
returns c = nothing-yet
