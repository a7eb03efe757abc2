use Rattle.run_course.proofs.Failing.{power-on_cut}
use Rattle.run_course.proofs.moment_laws.a_power_on_is_cut.Goals as goal

pub returns : goal.returns
returns c = power-on_cut
