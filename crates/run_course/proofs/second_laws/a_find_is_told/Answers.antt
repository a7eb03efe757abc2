use Rattle.run_course.proofs.Within.{find-told}
use Rattle.run_course.proofs.second_laws.a_find_is_told.Goals as goal

pub returns : goal.returns
returns c = find-told
