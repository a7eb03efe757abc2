use Rattle.run_promise.proofs.Beside.{found-tells}
use Rattle.run_promise.proofs.record_laws.found_tells_no_more.Goals as goal

pub returns : goal.returns
returns c = found-tells
