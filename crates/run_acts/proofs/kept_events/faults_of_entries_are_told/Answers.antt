use Rattle.run_acts.proofs.EventCrews.{faults-told}
use Rattle.run_acts.proofs.kept_events.faults_of_entries_are_told.Goals as goal

pub returns : goal.returns
returns c = faults-told
