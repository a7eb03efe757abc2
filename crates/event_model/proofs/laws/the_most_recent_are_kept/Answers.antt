use Rattle.event_model.specs.Kinds.{purpose_of}
use Rattle.event_model.proofs.Noting.{recently}
use Rattle.event_model.proofs.laws.the_most_recent_are_kept.Goals as goal

pub returns : goal.returns
returns c = λ kind. recently (purpose_of kind)
