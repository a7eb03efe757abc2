use Rattle.device_rule.proofs.Overwriting.{owed-entries_count}
use Rattle.device_rule.proofs.laws.owed_entries_count.Goals as goal

pub returns : goal.returns
returns c = owed-entries_count
