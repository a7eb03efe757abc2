use Rattle.device_rule.specs.Marked.{of_unit, of_card}
use Rattle.device_rule.proofs.Staying.{put-stays, put-beside_stays, commit-stays, begin-stays, begin-beside_stays, mend-stays, note-stays}
use Rattle.device_rule.proofs.laws.the_unit_owes_nothing_brought.Goals as goal

pub returns-clause-put : goal.returns-clause-put
returns-clause-put g z = λ a b c start began s e present late stands run. put-stays c (of_unit a b (g.M.Medium.state z.args.before.now)) (of_unit a b (g.N.Medium.state z.args.after.now)) (of_card (g.C.Chip.state z.args.card.now)) start began s e present late stands run

pub returns-clause-put_beside : goal.returns-clause-put_beside
returns-clause-put_beside g z = λ a b c e run. put-beside_stays c (of_unit a b (g.M.Medium.state z.args.before.now)) (of_unit a b (g.N.Medium.state z.args.after.now)) (of_card (g.C.Chip.state z.args.card.now)) e run

pub returns-clause-kept : goal.returns-clause-kept
returns-clause-kept g z = λ a b c start began s i k behind may run. commit-stays c (of_unit a b (g.M.Medium.state z.args.before.now)) (of_unit a b (g.N.Medium.state z.args.after.now)) (of_card (g.C.Chip.state z.args.card.now)) start began s i k behind may.day may.late may.stands may.cells may.fits run

pub returns-clause-begun : goal.returns-clause-begun
returns-clause-begun g z = λ a b c start began session newest entered late run. begin-stays c (of_unit a b (g.M.Medium.state z.args.before.now)) (of_unit a b (g.N.Medium.state z.args.after.now)) (of_card (g.C.Chip.state z.args.card.now)) start began session newest entered late run

pub returns-clause-begun_beside : goal.returns-clause-begun_beside
returns-clause-begun_beside g z = λ a b c run. begin-beside_stays c (of_unit a b (g.M.Medium.state z.args.before.now)) (of_unit a b (g.N.Medium.state z.args.after.now)) (of_card (g.C.Chip.state z.args.card.now)) run

pub returns-clause-mended : goal.returns-clause-mended
returns-clause-mended g z = λ a b c run. mend-stays c (of_unit a b (g.M.Medium.state z.args.before.now)) (of_unit a b (g.N.Medium.state z.args.after.now)) (of_card (g.C.Chip.state z.args.card.now)) run

pub returns-clause-noted : goal.returns-clause-noted
returns-clause-noted g z = λ a b c run. note-stays c (of_unit a b (g.M.Medium.state z.args.before.now)) (of_unit a b (g.N.Medium.state z.args.after.now)) (of_card (g.C.Chip.state z.args.card.now)) run
