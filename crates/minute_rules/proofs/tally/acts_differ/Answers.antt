use Rattle.std.proofs.Common.{◌∙◌, sym}
use Rattle.minute_rules.proofs.Tallies.{same_activity-true}
use Rattle.minute_rules.proofs.tally.acts_differ.Goals as goal

pub returns-then-same : goal.returns-then-same
returns-then-same c = same_activity-true c.args.one c.args.other (sym c.is_same-same.ensures ∙ c.if-same.true)
