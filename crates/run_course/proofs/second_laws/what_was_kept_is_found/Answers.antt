use Rattle.run_course.proofs.Presence.{found-kept}
use Rattle.run_course.proofs.second_laws.what_was_kept_is_found.Goals as goal

pub returns : goal.returns
returns c = found-kept
