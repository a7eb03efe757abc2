use Rattle.std.proofs.Common.{refl}
use Rattle.file_json.proofs.laws.what_a_unit_notes_is_told_in_its_form.Goals as goal

pub returns-clause-event : goal.returns-clause-event
returns-clause-event c = ((refl, (refl, tt)), (refl, (refl, (refl, (refl, tt)))))

pub returns-clause-fault : goal.returns-clause-fault
returns-clause-fault c = ((refl, (refl, tt)), (refl, (refl, (refl, (refl, tt)))))

pub returns-clause-over : goal.returns-clause-over
returns-clause-over c = ((refl, (refl, tt)), (refl, (refl, tt)))

pub returns-clause-place : goal.returns-clause-place
returns-clause-place c = ((refl, tt), (refl, tt))

pub returns-clause-day : goal.returns-clause-day
returns-clause-day c = ((refl, tt), (refl, tt))

pub returns-clause-speeds : goal.returns-clause-speeds
returns-clause-speeds c = (refl, tt)
