use Rattle.run_course.proofs.Lines.{refusal-seen}
use Rattle.run_course.proofs.moment_laws.a_refusal_is_seen.Goals as goal

pub returns : goal.returns
returns c = refusal-seen
