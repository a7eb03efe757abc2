use Rattle.run_promise.proofs.Quiet.{dark-accounted, off-accounted, off-cut-accounted}
use Rattle.run_promise.proofs.account_laws.accounts_stay_without_power.Goals as goal

pub returns-clause-dark : goal.returns-clause-dark
returns-clause-dark c = dark-accounted

pub returns-clause-off : goal.returns-clause-off
returns-clause-off c = off-accounted

pub returns-clause-cut : goal.returns-clause-cut
returns-clause-cut c = off-cut-accounted
