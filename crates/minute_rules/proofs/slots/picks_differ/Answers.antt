use Rattle.std.proofs.Common.{◌∙◌, sym}
use Rattle.minute_rules.proofs.Parts.{same_pick}
use Rattle.minute_rules.proofs.slots.picks_differ.Goals as goal

pub returns : goal.returns
returns c = same_pick c.args.one c.args.other (sym c.activity-first.ensures ∙ c.if-acts_differ.ensures ∙ c.activity-second.ensures)
