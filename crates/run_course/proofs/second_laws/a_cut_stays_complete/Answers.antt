use Rattle.run_course.proofs.Staying.{cut-stays_}
use Rattle.run_course.proofs.second_laws.a_cut_stays_complete.Goals as goal

pub returns : goal.returns
returns c = cut-stays_
