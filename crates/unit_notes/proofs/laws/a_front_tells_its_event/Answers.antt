use Rattle.unit_notes.proofs.EntryFields.{event_front_of}
use Rattle.unit_notes.proofs.laws.a_front_tells_its_event.Goals as goal

pub returns : goal.returns
returns c = event_front_of
