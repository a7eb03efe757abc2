use Rattle.unit_notes.proofs.AfterRun.{run_held}
use Rattle.unit_notes.proofs.retention.the_events_of_a_run_take_their_places.Goals as goal

pub returns : goal.returns
returns c = run_held
