use Rattle.run_course.proofs.Lookups.{find-more}
use Rattle.run_course.proofs.second_laws.a_find_more_is_seen.Goals as goal

pub returns : goal.returns
returns c = find-more
