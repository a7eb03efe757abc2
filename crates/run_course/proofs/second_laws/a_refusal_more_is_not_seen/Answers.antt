use Rattle.run_course.proofs.Lookups.{refusal-more}
use Rattle.run_course.proofs.second_laws.a_refusal_more_is_not_seen.Goals as goal

pub returns : goal.returns
returns c = refusal-more
