use Rattle.std.proofs.Common.{refl}
use Rattle.file_json.proofs.laws.what_a_card_holds_is_told_under_its_name.Goals as goal

pub returns-clause-event : goal.returns-clause-event
returns-clause-event c = (refl, (refl, (refl, (refl, tt))))

pub returns-clause-vehicle : goal.returns-clause-vehicle
returns-clause-vehicle c = (refl, (refl, (refl, (refl, (refl, (refl, tt))))))

pub returns-clause-place : goal.returns-clause-place
returns-clause-place c = (refl, (refl, (refl, (refl, (refl, tt)))))
