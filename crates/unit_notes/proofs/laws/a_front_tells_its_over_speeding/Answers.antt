use Rattle.unit_notes.proofs.EntryFields.{over_front_of}
use Rattle.unit_notes.proofs.laws.a_front_tells_its_over_speeding.Goals as goal

pub returns : goal.returns
returns c = over_front_of
