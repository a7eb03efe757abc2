use Rattle.run_events.proofs.Unsure.{all-noted, all-first, all-count}
use Rattle.run_events.proofs.event_laws.what_is_sure_was_noted.Goals as goal

pub returns : goal.returns
returns c = record { tables = all-noted; first = all-first; count = all-count }
