use Rattle.unit_notes.proofs.Placing.{is_noted}
use Rattle.unit_notes.proofs.laws.the_places_of_its_type_have_it_noted.Goals as goal

pub returns : goal.returns
returns c = is_noted
