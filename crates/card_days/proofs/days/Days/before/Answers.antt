use Rattle.std.proofs.Common.{IfOk, IfSome, subst}
use Rattle.card_days.specs.Heads.{IsBefore}
use Rattle.card_days.specs.Held.{Held}
use Rattle.card_days.proofs.days.Days.before.Goals as goal

pub returns-clause-before : goal.returns-clause-before
returns-clause-before g c = subst (λ (h : Held). IfOk c.before-2.result (λ o. IfSome (g.M.Medium.state c.args.medium.now).image (λ x. IsBefore h.shape x c.args.head.now o))) c.self.view_is c.before-2.ensures.before
