use Rattle.unit_notes.proofs.Placing.{held_noted}
use Rattle.unit_notes.proofs.laws.the_held_events_are_those_noted.Goals as goal

pub returns : goal.returns
returns c = held_noted
