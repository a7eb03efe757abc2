use Rattle.run_promise.proofs.Taken.{taken-last}
use Rattle.run_promise.proofs.account_laws.an_acceptance_is_taken_at_the_last_kept_minute.Goals as goal

pub returns : goal.returns
returns g z = λ s due p b q marks new more kept later none h u on. taken-last s due p b q marks new more (g.M.Medium.state z.args.unit.now) kept later none h u on
