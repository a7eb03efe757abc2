use Rattle.run_note_record.proofs.Quiet.{ends-nothing}
use Rattle.run_note_record.proofs.going.seconds_alike_end_nothing.Goals as goal

pub returns : goal.returns
returns c = ends-nothing
