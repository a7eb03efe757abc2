use Rattle.run_promise.proofs.Going.{second-accounted}
use Rattle.run_promise.proofs.account_laws.a_second_is_accounted.Goals as goal

pub returns : goal.returns
returns c = second-accounted
