use Rattle.run_course.proofs.Within.{cut-ends}
use Rattle.run_course.proofs.second_laws.a_cut_ends_the_second.Goals as goal

pub returns : goal.returns
returns c = cut-ends
