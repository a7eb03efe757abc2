use Rattle.run_course.proofs.Travelled.{legs-shown}
use Rattle.run_course.proofs.second_laws.shown_legs_are_those.Goals as goal

pub returns : goal.returns
returns c = legs-shown
