use Rattle.std.proofs.Common.{refl}
use Rattle.file_json.proofs.laws.an_insertion_is_told_in_its_form.Goals as goal

pub returns-clause-times : goal.returns-clause-times
returns-clause-times c = (refl, (refl, (refl, tt)))

pub returns-clause-odometers : goal.returns-clause-odometers
returns-clause-odometers c = (refl, (refl, tt))

pub returns-clause-card : goal.returns-clause-card
returns-clause-card c = (refl, tt)

pub returns-clause-before : goal.returns-clause-before
returns-clause-before c = (refl, tt)
