use Rattle.run_promise.proofs.Beside.{second-tells}
use Rattle.run_promise.proofs.record_laws.a_second_tells_more.Goals as goal

pub returns : goal.returns
returns c = second-tells
