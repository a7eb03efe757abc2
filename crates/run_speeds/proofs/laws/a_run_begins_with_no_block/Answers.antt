use Rattle.run_speeds.proofs.Speeds.{speeds-begin}
use Rattle.run_speeds.proofs.laws.a_run_begins_with_no_block.Goals as goal

pub returns : goal.returns
returns g c = λ is_sure start began ring later now since. speeds-begin is_sure start began (g.M.Medium.state c.args.unit.now) ring later now since
