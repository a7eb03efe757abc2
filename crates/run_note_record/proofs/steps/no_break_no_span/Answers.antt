use Rattle.run_note_record.proofs.Kept.{no-break_no-span}
use Rattle.run_note_record.proofs.steps.no_break_no_span.Goals as goal

pub returns : goal.returns
returns g = no-break_no-span
