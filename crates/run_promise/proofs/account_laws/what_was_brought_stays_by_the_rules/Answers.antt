use Rattle.run_promise.proofs.Stays.{stays}
use Rattle.run_promise.proofs.account_laws.what_was_brought_stays_by_the_rules.Goals as goal

pub returns : goal.returns
returns g w = λ f c k b d y z s had. stays f c k b d y z (g.M.Medium.state w.args.unit.now) (g.C.Chip.state w.args.card.now) (g.N.Medium.state w.args.unit_behind.now) (g.D.Chip.state w.args.card_behind.now) s had
