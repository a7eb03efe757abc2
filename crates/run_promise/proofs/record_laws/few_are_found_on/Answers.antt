use Rattle.run_promise.proofs.Beside.{few-on}
use Rattle.run_promise.proofs.record_laws.few_are_found_on.Goals as goal

pub returns : goal.returns
returns c = few-on
