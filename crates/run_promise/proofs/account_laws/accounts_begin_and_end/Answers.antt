use Rattle.run_promise.proofs.Going.{nothing-accounted, end-accounted}
use Rattle.run_promise.proofs.account_laws.accounts_begin_and_end.Goals as goal

pub returns-clause-begin : goal.returns-clause-begin
returns-clause-begin c = nothing-accounted

pub returns-clause-end : goal.returns-clause-end
returns-clause-end c = end-accounted
