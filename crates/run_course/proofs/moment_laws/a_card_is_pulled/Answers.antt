use Rattle.run_course.proofs.Moment.{card-pulled}
use Rattle.run_course.proofs.moment_laws.a_card_is_pulled.Goals as goal

pub returns : goal.returns
returns c = card-pulled
