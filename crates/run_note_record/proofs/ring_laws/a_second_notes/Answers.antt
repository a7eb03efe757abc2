use Rattle.run_note_record.proofs.Noted.{second-notes}
use Rattle.run_note_record.proofs.ring_laws.a_second_notes.Goals as goal

pub returns : goal.returns
returns z = second-notes
