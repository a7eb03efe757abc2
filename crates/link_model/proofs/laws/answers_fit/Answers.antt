use Rattle.link_model.proofs.Fitting.{answered_fits}
use Rattle.link_model.proofs.laws.answers_fit.Goals as goal

pub returns : goal.returns
returns c = answered_fits
