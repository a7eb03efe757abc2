use Rattle.run_course.proofs.Presence.{minute-ends}
use Rattle.run_course.proofs.second_laws.a_minute_ends.Goals as goal

pub returns : goal.returns
returns c = minute-ends
