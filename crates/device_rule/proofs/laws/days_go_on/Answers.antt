use Rattle.device_rule.proofs.Simple.{days-go-on}
use Rattle.device_rule.proofs.laws.days_go_on.Goals as goal

pub returns : goal.returns
returns c = days-go-on
