use Rattle.unit_notes.proofs.AfterRun.{is_start}
use Rattle.unit_notes.proofs.retention.empty_places_are_a_start.Goals as goal

pub returns : goal.returns
returns c = is_start
