use Rattle.device_calls.proofs.StringReady.{since-ready}
use Rattle.device_calls.proofs.step_laws.a_string_that_goes_on_is_ready.Goals as goal

pub returns : goal.returns
returns g c = λ t image h done n hands e sound lie few known. since-ready t image h done n hands e sound lie few _ known
