use Rattle.run_unit_course.proofs.Steps.{stays_dark}
use Rattle.run_unit_course.proofs.Seconds.{dark_minute}
use Rattle.run_unit_course.proofs.laws.a_minute_stays_dark.Goals as goal

pub returns : goal.returns
returns c = record { told = dark_minute; followed = stays_dark }
