use Rattle.run_course.proofs.Cutting.{cut-decided}
use Rattle.run_course.proofs.moment_laws.the_cut_has_decided.Goals as goal

pub returns : goal.returns
returns c = cut-decided
