use Rattle.run_note_record.proofs.Refusing.{refusal-brought}
use Rattle.run_note_record.proofs.event_laws.a_refusal_brings_nothing.Goals as goal

pub returns : goal.returns
returns g = refusal-brought
