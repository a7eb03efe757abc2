use Rattle.run_course.proofs.Lines.{find-seen}
use Rattle.run_course.proofs.moment_laws.a_find_is_seen.Goals as goal

pub returns : goal.returns
returns c = find-seen
