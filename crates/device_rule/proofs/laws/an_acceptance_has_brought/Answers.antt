use Rattle.device_rule.specs.Marked.{of_unit, of_card}
use Rattle.device_rule.proofs.Repairing.{repaired-in}
use Rattle.device_rule.proofs.Staying.{torn-brought}
use Rattle.device_rule.proofs.laws.an_acceptance_has_brought.Goals as goal

pub returns-clause-accepted : goal.returns-clause-accepted
returns-clause-accepted g z = λ a b c start began session newest k stands. repaired-in c start began session newest k (of_unit a b (g.M.Medium.state z.args.unit.now)) (of_card (g.C.Chip.state z.args.card.now)) stands

pub returns-clause-torn : goal.returns-clause-torn
returns-clause-torn g z = λ a b c start began session newest floor k early stands. torn-brought c start began session newest floor k (of_unit a b (g.M.Medium.state z.args.unit.now)) (of_card (g.C.Chip.state z.args.card.now)) early stands
