use Rattle.run_course.proofs.Telling.{card-judged}
use Rattle.run_course.proofs.moment_laws.a_card_is_judged.Goals as goal

pub returns : goal.returns
returns c = card-judged
