use Rattle.run_promise.proofs.Beside.{fewer-are_found}
use Rattle.run_promise.proofs.record_laws.fewer_are_found.Goals as goal

pub returns : goal.returns
returns c = fewer-are_found
