use Rattle.unit_notes.proofs.AfterRun.{not_later}
use Rattle.unit_notes.proofs.retention.an_event_that_begins_no_later_is_not_kept.Goals as goal

pub returns : goal.returns
returns c = not_later
