use Rattle.run_promise.proofs.Accounts.{accounts-brought}
use Rattle.run_promise.proofs.account_laws.accounts_are_brought.Goals as goal

pub returns : goal.returns
returns c = λ r card from b ks order early follows accounts. accounts-brought r card from b order early follows ks accounts
