use Rattle.unit_notes.proofs.EntryFields.{tells_insertion}
use Rattle.unit_notes.proofs.laws.an_entry_tells_its_insertion.Goals as goal

pub returns : goal.returns
returns c = tells_insertion
