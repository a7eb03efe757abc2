use Rattle.unit_notes.proofs.AfterRun.{first_of_least}
use Rattle.unit_notes.proofs.retention.the_earliest_place_is_the_first_of_the_least.Goals as goal

pub returns : goal.returns
returns c = first_of_least
