use Rattle.run_promise.proofs.Stays.{adds-none, adds-kept, adds-broken}
use Rattle.run_promise.proofs.account_laws.what_a_minute_adds_is_its_own.Goals as goal

pub returns-clause-none : goal.returns-clause-none
returns-clause-none z = adds-none

pub returns-clause-kept : goal.returns-clause-kept
returns-clause-kept z = adds-kept

pub returns-clause-broken : goal.returns-clause-broken
returns-clause-broken z = adds-broken
