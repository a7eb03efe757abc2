use Rattle.run_promise.proofs.Seconds.{quiet-recorded}
use Rattle.run_promise.proofs.record_laws.quiet_seconds_are_recorded.Goals as goal

pub returns : goal.returns
returns c = quiet-recorded
