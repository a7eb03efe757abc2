use Rattle.run_course.proofs.Complete.{power-alone}
use Rattle.run_course.proofs.second_laws.power_alone_decides_nothing.Goals as goal

pub returns : goal.returns
returns c = power-alone
