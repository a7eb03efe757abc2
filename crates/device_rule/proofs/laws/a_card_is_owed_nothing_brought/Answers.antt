use Rattle.device_rule.specs.Marked.{of_unit, of_card}
use Rattle.device_rule.proofs.Staying.{insert-stays, keep-stays, close-stays, read-stays}
use Rattle.device_rule.proofs.laws.a_card_is_owed_nothing_brought.Goals as goal

pub returns-clause-inserted : goal.returns-clause-inserted
returns-clause-inserted g z = λ a b c given now owing run. insert-stays c (of_unit a b (g.M.Medium.state z.args.unit.now)) (of_card (g.C.Chip.state z.args.before.now)) (of_card (g.D.Chip.state z.args.after.now)) given now owing.owes owing.late run

pub returns-clause-kept : goal.returns-clause-kept
returns-clause-kept g z = λ a b c start began session newest e late stands run. keep-stays c (of_unit a b (g.M.Medium.state z.args.unit.now)) (of_card (g.C.Chip.state z.args.before.now)) (of_card (g.D.Chip.state z.args.after.now)) start began session newest e late stands run

pub returns-clause-closed : goal.returns-clause-closed
returns-clause-closed g z = λ a b c start began session newest stands run. close-stays c (of_unit a b (g.M.Medium.state z.args.unit.now)) (of_card (g.C.Chip.state z.args.before.now)) (of_card (g.D.Chip.state z.args.after.now)) start began session newest stands run

pub returns-clause-read : goal.returns-clause-read
returns-clause-read g z = λ a b c run. read-stays c (of_unit a b (g.M.Medium.state z.args.unit.now)) (of_card (g.C.Chip.state z.args.before.now)) (of_card (g.D.Chip.state z.args.after.now)) run
