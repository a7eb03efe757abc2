use Rattle.run_promise.proofs.Beside.{dark-tells}
use Rattle.run_promise.proofs.record_laws.dark_seconds_tell_more.Goals as goal

pub returns : goal.returns
returns c = dark-tells
