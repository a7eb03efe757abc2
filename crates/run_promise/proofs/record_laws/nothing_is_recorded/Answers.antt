use Rattle.run_promise.proofs.Seconds.{nothing-recorded}
use Rattle.run_promise.proofs.record_laws.nothing_is_recorded.Goals as goal

pub returns : goal.returns
returns c = nothing-recorded
