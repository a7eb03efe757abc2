use Rattle.run_promise.proofs.Shown.{lost-is_shown}
use Rattle.run_promise.proofs.account_laws.what_is_lost_is_shown.Goals as goal

pub returns : goal.returns
returns c = lost-is_shown
