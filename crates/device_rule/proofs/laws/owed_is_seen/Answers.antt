use Rattle.device_rule.proofs.OwedView.{owed-seen}
use Rattle.device_rule.proofs.laws.owed_is_seen.Goals as goal

pub returns : goal.returns
returns c = owed-seen
