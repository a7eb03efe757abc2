use Rattle.run_course.proofs.Lookups.{break-more}
use Rattle.run_course.proofs.second_laws.a_break_more_is_seen.Goals as goal

pub returns : goal.returns
returns c = break-more
