use Rattle.run_course.proofs.Steps.{rules_see}
use Rattle.run_course.proofs.second_laws.rules_see_the_second.Goals as goal

pub returns : goal.returns
returns c = rules_see
