use Rattle.run_acts.proofs.EventCrews.{crew-named}
use Rattle.run_acts.proofs.kept_events.the_crew_of_a_moment_is_named.Goals as goal

pub returns : goal.returns
returns c = crew-named
