use Rattle.run_promise.proofs.Beside.{off-cut-tells}
use Rattle.run_promise.proofs.record_laws.an_off_cut_tells_more.Goals as goal

pub returns : goal.returns
returns c = off-cut-tells
