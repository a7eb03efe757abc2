use Rattle.run_course.proofs.Within.{acceptance-tells}
use Rattle.run_course.proofs.second_laws.slots_tell_an_acceptance.Goals as goal

pub returns : goal.returns
returns c = acceptance-tells
