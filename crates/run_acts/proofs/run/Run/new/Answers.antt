use Rattle.std.proofs.Common.{refl}
use Rattle.run_acts.proofs.run.Run.new.Goals as goal

pub returns-clause-starts : goal.returns-clause-starts
returns-clause-starts c = record { power = refl; next = refl; begun = refl; unfound = refl; noted = refl }
