use Rattle.run_course.proofs.Presence.{power-lost}
use Rattle.run_course.proofs.second_laws.power_is_lost.Goals as goal

pub returns : goal.returns
returns c = power-lost
