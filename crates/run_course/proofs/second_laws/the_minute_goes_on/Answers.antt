use Rattle.run_course.proofs.Presence.{goes-on}
use Rattle.run_course.proofs.second_laws.the_minute_goes_on.Goals as goal

pub returns : goal.returns
returns c = goes-on
