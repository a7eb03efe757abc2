use Rattle.run_speeds.proofs.Leaving.{same-before, same-behind}
use Rattle.run_speeds.proofs.laws.writes_beside_the_ring_leave_it.Goals as goal

pub returns : goal.returns
returns c = record { before = same-before; behind = same-behind }
