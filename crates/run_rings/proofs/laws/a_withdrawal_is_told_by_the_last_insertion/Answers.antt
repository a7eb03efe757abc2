use Rattle.run_rings.proofs.Standing.{withdrawal-of-last}
use Rattle.run_rings.proofs.laws.a_withdrawal_is_told_by_the_last_insertion.Goals as goal

pub returns : goal.returns
returns c = withdrawal-of-last
