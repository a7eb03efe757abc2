use Rattle.run_speeds.proofs.Speeds.{speeds-on}
use Rattle.run_speeds.proofs.laws.other_calls_carry_the_blocks_on.Goals as goal

pub returns : goal.returns
returns g c = λ is_sure start began blocks h leaves. speeds-on is_sure start began blocks (g.M.Medium.state c.args.old.now) (g.N.Medium.state c.args.new.now) h leaves
