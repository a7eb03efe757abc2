use Rattle.run_course.proofs.Steps.{power_finds}
use Rattle.run_course.proofs.second_laws.a_power_on_finds.Goals as goal

pub returns : goal.returns
returns c = power_finds
