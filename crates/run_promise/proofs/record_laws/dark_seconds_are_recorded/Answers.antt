use Rattle.run_promise.proofs.Seconds.{dark-recorded}
use Rattle.run_promise.proofs.record_laws.dark_seconds_are_recorded.Goals as goal

pub returns : goal.returns
returns c = dark-recorded
