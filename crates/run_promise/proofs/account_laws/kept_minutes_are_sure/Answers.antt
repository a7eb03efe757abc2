use Rattle.run_promise.proofs.Going.{sure-kept}
use Rattle.run_promise.proofs.account_laws.kept_minutes_are_sure.Goals as goal

pub returns : goal.returns
returns c = sure-kept
