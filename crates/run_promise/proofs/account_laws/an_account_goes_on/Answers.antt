use Rattle.run_promise.proofs.Accounts.{account-on, lost-more, lost-found}
use Rattle.run_promise.proofs.account_laws.an_account_goes_on.Goals as goal

pub returns-clause-goes : goal.returns-clause-goes
returns-clause-goes c = account-on

pub returns-clause-later : goal.returns-clause-later
returns-clause-later c = lost-more

pub returns-clause-found : goal.returns-clause-found
returns-clause-found c = lost-found
