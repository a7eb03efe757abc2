use Rattle.link_model.proofs.Cutting.{cuts_join}
use Rattle.link_model.proofs.laws.pieces_join.Goals as goal

pub returns : goal.returns
returns c = cuts_join
