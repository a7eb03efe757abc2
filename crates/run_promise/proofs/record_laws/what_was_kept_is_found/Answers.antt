use Rattle.run_promise.proofs.Seconds.{found-recorded}
use Rattle.run_promise.proofs.record_laws.what_was_kept_is_found.Goals as goal

pub returns : goal.returns
returns c = found-recorded
