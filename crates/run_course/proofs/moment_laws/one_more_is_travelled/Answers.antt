use Rattle.run_course.proofs.Kept.{one-travelled}
use Rattle.run_course.proofs.moment_laws.one_more_is_travelled.Goals as goal

pub returns : goal.returns
returns c = one-travelled
