use Rattle.unit_notes.proofs.AfterRun.{is_after}
use Rattle.unit_notes.proofs.retention.the_events_that_are_to_be_kept_are_held_after_a_run.Goals as goal

pub returns : goal.returns
returns c = is_after
