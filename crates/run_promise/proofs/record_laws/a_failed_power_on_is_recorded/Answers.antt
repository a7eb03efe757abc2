use Rattle.run_promise.proofs.Seconds.{failed-recorded}
use Rattle.run_promise.proofs.record_laws.a_failed_power_on_is_recorded.Goals as goal

pub returns : goal.returns
returns c = failed-recorded
