use Rattle.run_promise.proofs.Seconds.{off-cut-recorded}
use Rattle.run_promise.proofs.record_laws.an_off_cut_is_recorded.Goals as goal

pub returns : goal.returns
returns c = off-cut-recorded
