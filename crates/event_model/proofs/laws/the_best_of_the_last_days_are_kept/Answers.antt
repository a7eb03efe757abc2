use Rattle.event_model.specs.Kinds.{purpose_of}
use Rattle.event_model.proofs.Noting.{daily}
use Rattle.event_model.proofs.laws.the_best_of_the_last_days_are_kept.Goals as goal

pub returns : goal.returns
returns c = λ kind. daily (purpose_of kind)
