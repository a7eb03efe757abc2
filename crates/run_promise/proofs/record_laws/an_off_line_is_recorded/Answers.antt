use Rattle.run_promise.proofs.Seconds.{off-recorded}
use Rattle.run_promise.proofs.record_laws.an_off_line_is_recorded.Goals as goal

pub returns : goal.returns
returns c = off-recorded
