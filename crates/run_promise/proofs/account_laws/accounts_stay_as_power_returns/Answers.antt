use Rattle.run_promise.proofs.Quiet.{found-accounted, failure-accounted}
use Rattle.run_promise.proofs.account_laws.accounts_stay_as_power_returns.Goals as goal

pub returns-clause-found : goal.returns-clause-found
returns-clause-found c = found-accounted

pub returns-clause-failed : goal.returns-clause-failed
returns-clause-failed c = failure-accounted
