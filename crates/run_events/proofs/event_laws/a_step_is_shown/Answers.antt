use Rattle.run_events.proofs.Shows.{shows-then}
use Rattle.run_events.proofs.event_laws.a_step_is_shown.Goals as goal

pub returns : goal.returns
returns c = shows-then
