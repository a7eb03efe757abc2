use Rattle.std.proofs.Common.{rules, []}
use Rattle.event_rules.specs.Speeding.{no_run}
use Rattle.event_rules.proofs.Fast.{by-value, new-stands}
use Rattle.event_rules.proofs.speeding.Overspeed.new.Goals as goal

pub returns-clause-stands : goal.returns-clause-stands
returns-clause-stands c = by-value _ (record { limit = c.args.limit; run = no_run }) [] (new-stands c.args.limit) (search rules)
