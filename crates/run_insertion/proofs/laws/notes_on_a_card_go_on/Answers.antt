use Rattle.run_insertion.proofs.CardBrought.{notes-then, notes-still}
use Rattle.run_insertion.proofs.laws.notes_on_a_card_go_on.Goals as goal

pub returns-clause-joined : goal.returns-clause-joined
returns-clause-joined g c = λ app events more cut first next. notes-then app events more cut (g.C.Chip.state c.args.before.now) (g.D.Chip.state c.args.between.now) (g.E.Chip.state c.args.after.now) first next

pub returns-clause-still : goal.returns-clause-still
returns-clause-still g c = λ app cut leaves. notes-still app cut (g.C.Chip.state c.args.before.now) (g.D.Chip.state c.args.between.now) leaves
