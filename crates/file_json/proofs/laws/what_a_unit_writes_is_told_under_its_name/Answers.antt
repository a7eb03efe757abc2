use Rattle.std.proofs.Common.{refl}
use Rattle.file_json.proofs.laws.what_a_unit_writes_is_told_under_its_name.Goals as goal

pub returns-clause-insertion : goal.returns-clause-insertion
returns-clause-insertion c = (refl, (refl, (refl, (refl, (refl, (refl, (refl, (refl, tt))))))))

pub returns-clause-by_hand : goal.returns-clause-by_hand
returns-clause-by_hand c = (refl, tt)

pub returns-clause-fault : goal.returns-clause-fault
returns-clause-fault c = (refl, (refl, (refl, (refl, (refl, (refl, (refl, (refl, tt))))))))

pub returns-clause-event : goal.returns-clause-event
returns-clause-event c = (refl, (refl, (refl, (refl, (refl, (refl, (refl, (refl, tt))))))))

pub returns-clause-similar : goal.returns-clause-similar
returns-clause-similar c = (refl, tt)

pub returns-clause-over : goal.returns-clause-over
returns-clause-over c = (refl, (refl, (refl, (refl, (refl, (refl, (refl, (refl, tt))))))))

pub returns-clause-place : goal.returns-clause-place
returns-clause-place c = (refl, (refl, (refl, (refl, (refl, tt)))))
