use Rattle.std.proofs.Common.{IfOk, IfSome, subst}
use Rattle.card_days.specs.Heads.{IsAfter}
use Rattle.card_days.specs.Held.{Held}
use Rattle.card_days.proofs.days.Days.after.Goals as goal

pub returns-clause-after : goal.returns-clause-after
returns-clause-after g c = subst (λ (h : Held). IfOk c.after.result (λ o. IfSome (g.M.Medium.state c.args.medium.now).image (λ x. IsAfter h.shape x c.args.head.now o))) c.self.view_is c.after.ensures.after
