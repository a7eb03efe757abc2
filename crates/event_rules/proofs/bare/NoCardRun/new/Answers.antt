use Rattle.event_rules.proofs.Without.{new-stands}
use Rattle.event_rules.proofs.bare.NoCardRun.new.Goals as goal

pub returns-clause-stands : goal.returns-clause-stands
returns-clause-stands c = new-stands
