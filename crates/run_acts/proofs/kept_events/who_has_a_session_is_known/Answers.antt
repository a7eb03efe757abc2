use Rattle.run_acts.proofs.EventCrews.{sessions-known}
use Rattle.run_acts.proofs.kept_events.who_has_a_session_is_known.Goals as goal

pub returns : goal.returns
returns c = sessions-known
