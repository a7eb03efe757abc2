use Rattle.event_model.specs.Kept.{stored}
use Rattle.event_model.proofs.Similar.{days_all}
use Rattle.event_model.proofs.laws.the_best_of_the_last_days_of_a_run_are_kept.Goals as goal

pub returns : goal.returns
returns c = λ kind held events. days_all kind held (stored held) events
