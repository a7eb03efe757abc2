use Rattle.run_acts.proofs.KeptEvents.{faults-are}
use Rattle.run_acts.proofs.kept_events.keepings_note_faults.Goals as goal

pub returns : goal.returns
returns c = faults-are
