use Rattle.device_calls.proofs.Passed.{valid-days}
use Rattle.device_calls.proofs.step_laws.a_valid_card_has_days.Goals as goal

pub returns : goal.returns
returns c = λ app x sound fits valid. valid-days app sound x fits valid
