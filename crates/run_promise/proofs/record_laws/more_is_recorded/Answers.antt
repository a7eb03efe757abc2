use Rattle.run_promise.proofs.Seconds.{more-recorded}
use Rattle.run_promise.proofs.record_laws.more_is_recorded.Goals as goal

pub returns : goal.returns
returns c = more-recorded
