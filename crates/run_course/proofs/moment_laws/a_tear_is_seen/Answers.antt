use Rattle.run_course.proofs.Lines.{tear-seen}
use Rattle.run_course.proofs.moment_laws.a_tear_is_seen.Goals as goal

pub returns : goal.returns
returns c = tear-seen
