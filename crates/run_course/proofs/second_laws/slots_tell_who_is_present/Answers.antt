use Rattle.run_course.proofs.Presence.{tell-present}
use Rattle.run_course.proofs.second_laws.slots_tell_who_is_present.Goals as goal

pub returns : goal.returns
returns c = tell-present
