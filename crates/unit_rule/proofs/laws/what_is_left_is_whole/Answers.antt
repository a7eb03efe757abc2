use Rattle.unit_rule.proofs.Completing.{left-whole}
use Rattle.unit_rule.proofs.laws.what_is_left_is_whole.Goals as goal

pub returns : goal.returns
returns g c = λ s due b marks h none lost x left. left-whole s due b marks (g.M.Medium.state c.args.unit.now) h none lost x left
