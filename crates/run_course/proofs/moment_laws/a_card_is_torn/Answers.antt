use Rattle.run_course.proofs.Telling.{card-torn}
use Rattle.run_course.proofs.moment_laws.a_card_is_torn.Goals as goal

pub returns : goal.returns
returns c = card-torn
