use Rattle.run_course.proofs.Presence.{slots-agree}
use Rattle.run_course.proofs.second_laws.slots_that_tell_agree.Goals as goal

pub returns : goal.returns
returns c = slots-agree
