use Rattle.std.proofs.Common.{refl}
use Rattle.file_json.proofs.laws.what_a_card_holds_is_told_in_its_form.Goals as goal

pub returns-clause-event : goal.returns-clause-event
returns-clause-event c = (refl, (refl, tt))

pub returns-clause-vehicle : goal.returns-clause-vehicle
returns-clause-vehicle c = ((refl, (refl, tt)), (refl, (refl, tt)))

pub returns-clause-place : goal.returns-clause-place
returns-clause-place c = ((refl, tt), (refl, tt))

pub returns-clause-session : goal.returns-clause-session
returns-clause-session c = (refl, tt)

pub returns-clause-day : goal.returns-clause-day
returns-clause-day c = ((refl, tt), (refl, tt))
