use Rattle.run_events.proofs.Shows.{shown-left}
use Rattle.run_events.proofs.event_laws.what_a_failed_call_leaves_is_shown.Goals as goal

pub returns : goal.returns
returns c = shown-left
