use Rattle.unit_notes.proofs.EntryFields.{tells_place}
use Rattle.unit_notes.proofs.laws.an_entry_tells_its_place.Goals as goal

pub returns : goal.returns
returns c = tells_place
