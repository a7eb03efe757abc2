use Rattle.run_course.proofs.Quiet.{rules-see-quiet}
use Rattle.run_course.proofs.second_laws.rules_see_quiet_seconds.Goals as goal

pub returns : goal.returns
returns c = rules-see-quiet
