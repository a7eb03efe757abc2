use Rattle.run_course.proofs.Telling.{breakdowns-only}
use Rattle.run_course.proofs.moment_laws.breakdowns_take_nothing_away.Goals as goal

pub returns : goal.returns
returns c = breakdowns-only
