use Rattle.run_note_record.proofs.Kept.{interruption-found}
use Rattle.run_note_record.proofs.steps.the_interruption_is_found.Goals as goal

pub returns : goal.returns
returns g = interruption-found
