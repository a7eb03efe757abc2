use Rattle.run_course.proofs.Within.{tear-tells}
use Rattle.run_course.proofs.second_laws.slots_tell_a_tear.Goals as goal

pub returns : goal.returns
returns c = tear-tells
