use Rattle.run_events.proofs.Shows.{nothing-more}
use Rattle.run_events.proofs.event_laws.what_is_shown_stays.Goals as goal

pub returns : goal.returns
returns c = nothing-more
