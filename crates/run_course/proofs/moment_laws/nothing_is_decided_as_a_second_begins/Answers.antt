use Rattle.run_course.proofs.Kept.{nothing-decided}
use Rattle.run_course.proofs.moment_laws.nothing_is_decided_as_a_second_begins.Goals as goal

pub returns : goal.returns
returns c = nothing-decided
