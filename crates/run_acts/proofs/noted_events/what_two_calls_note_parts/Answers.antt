use Rattle.run_acts.proofs.NotedEvents.{split}
use Rattle.run_acts.proofs.noted_events.what_two_calls_note_parts.Goals as goal

pub returns : goal.returns
returns c = split
