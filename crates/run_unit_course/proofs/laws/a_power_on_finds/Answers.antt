use Rattle.run_unit_course.proofs.Steps.{powered}
use Rattle.run_unit_course.proofs.laws.a_power_on_finds.Goals as goal

pub returns : goal.returns
returns c = powered
