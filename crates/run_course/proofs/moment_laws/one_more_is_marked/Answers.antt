use Rattle.run_course.proofs.Kept.{one-marked}
use Rattle.run_course.proofs.moment_laws.one_more_is_marked.Goals as goal

pub returns : goal.returns
returns c = one-marked
