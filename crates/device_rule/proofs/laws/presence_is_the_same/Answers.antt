use Rattle.device_rule.proofs.Holding.{presence-tied}
use Rattle.device_rule.proofs.laws.presence_is_the_same.Goals as goal

pub returns : goal.returns
returns c = presence-tied
