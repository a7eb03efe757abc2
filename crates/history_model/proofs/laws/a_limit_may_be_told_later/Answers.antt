use Rattle.history_model.proofs.BySeconds.{same-history, same-lost}
use Rattle.history_model.proofs.laws.a_limit_may_be_told_later.Goals as goal

pub returns : goal.returns
returns c = λ rule start log later told same. (same-history rule start log later told same, same-lost rule start log later told same)
