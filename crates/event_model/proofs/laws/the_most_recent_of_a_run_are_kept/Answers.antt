use Rattle.event_model.specs.Kept.{stored}
use Rattle.event_model.proofs.Similar.{recent_all}
use Rattle.event_model.proofs.laws.the_most_recent_of_a_run_are_kept.Goals as goal

pub returns : goal.returns
returns c = λ kind held events. recent_all kind held (stored held) events
