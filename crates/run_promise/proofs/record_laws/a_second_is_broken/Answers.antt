use Rattle.run_promise.proofs.Seconds.{second-is_broken}
use Rattle.run_promise.proofs.record_laws.a_second_is_broken.Goals as goal

pub returns : goal.returns
returns c = second-is_broken
