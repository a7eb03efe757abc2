use Rattle.unit_rule.proofs.Safety.{unit-safe}
use Rattle.unit_rule.proofs.laws.a_followed_run_is_safe.Goals as goal

pub returns : goal.returns
returns g c = λ s past lost due b marks holds follows. unit-safe s past lost due b marks (g.M.Medium.state c.args.unit.now) (g.met.M.Medium.coherent c.args.unit.now) follows holds
