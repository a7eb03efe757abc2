use Rattle.run_course.proofs.Steps.{power_fails}
use Rattle.run_course.proofs.second_laws.a_power_on_fails.Goals as goal

pub returns : goal.returns
returns c = power_fails
