use Rattle.run_course.proofs.Within.{tear-told}
use Rattle.run_course.proofs.second_laws.a_tear_is_told.Goals as goal

pub returns : goal.returns
returns c = tear-told
