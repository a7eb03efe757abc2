use Rattle.run_promise.proofs.Beside.{quiet-tells}
use Rattle.run_promise.proofs.record_laws.quiet_seconds_tell_more.Goals as goal

pub returns : goal.returns
returns c = quiet-tells
