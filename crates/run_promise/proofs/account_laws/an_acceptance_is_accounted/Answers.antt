use Rattle.run_promise.proofs.Accounts.{account-new}
use Rattle.run_promise.proofs.account_laws.an_acceptance_is_accounted.Goals as goal

pub returns : goal.returns
returns c = account-new
