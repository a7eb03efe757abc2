use Rattle.run_promise.proofs.Beside.{off-tells}
use Rattle.run_promise.proofs.record_laws.an_off_line_tells_more.Goals as goal

pub returns : goal.returns
returns c = off-tells
