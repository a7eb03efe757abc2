use Rattle.run_course.proofs.Presence.{minutes-kept}
use Rattle.run_course.proofs.second_laws.minutes_are_kept.Goals as goal

pub returns : goal.returns
returns c = minutes-kept
