use Rattle.run_course.proofs.Telling.{cut-ends_told}
use Rattle.run_course.proofs.moment_laws.a_cut_ends.Goals as goal

pub returns : goal.returns
returns c = cut-ends_told
