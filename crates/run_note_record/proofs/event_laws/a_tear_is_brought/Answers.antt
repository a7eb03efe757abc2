use Rattle.run_note_record.proofs.Bringing.{tear-brought}
use Rattle.run_note_record.proofs.event_laws.a_tear_is_brought.Goals as goal

pub returns : goal.returns
returns g = tear-brought
