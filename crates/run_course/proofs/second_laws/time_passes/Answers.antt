use Rattle.run_course.proofs.Presence.{time-passes}
use Rattle.run_course.proofs.second_laws.time_passes.Goals as goal

pub returns : goal.returns
returns c = time-passes
