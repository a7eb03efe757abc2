use Rattle.run_course.proofs.Steps.{stays_dark}
use Rattle.run_course.proofs.second_laws.a_minute_stays_dark.Goals as goal

pub returns : goal.returns
returns c = stays_dark
