use Rattle.run_promise.proofs.Seconds.{second-is_recorded}
use Rattle.run_promise.proofs.record_laws.a_second_is_recorded.Goals as goal

pub returns : goal.returns
returns c = second-is_recorded
