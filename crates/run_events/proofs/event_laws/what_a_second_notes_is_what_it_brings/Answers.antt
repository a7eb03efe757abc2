use Rattle.run_events.proofs.Notes.{notes-by-kind}
use Rattle.run_events.proofs.event_laws.what_a_second_notes_is_what_it_brings.Goals as goal

pub returns : goal.returns
returns c = notes-by-kind
