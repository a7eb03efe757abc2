use Rattle.std.proofs.Common.{ap, ◌∙◌, arith, Some}
use Rattle.card_days.specs.Held.{Held}
use Rattle.card_days.proofs.Tails.{told_none, told_some}
use Rattle.card_days.proofs.days.Days.tail.Goals as goal

pub returns-then-self-eq0-clause-newest : goal.returns-then-self-eq0-clause-newest
returns-then-self-eq0-clause-newest c = λ x days k.
    let same = ap (λ (v : Held). v.tail.used) c.self.view_is in
    told_none c.args.self.now x days k (omega (arith, same, c.if-self-eq0.true))

pub returns-clause-newest : goal.returns-clause-newest
returns-clause-newest c = λ x days k.
    let same = ap (λ (v : Held). v.tail.used) c.self.view_is in
    ap (λ (v : Held). Some v.tail) c.self.view_is ∙ told_some c.args.self.now x days k (omega (arith, same, c.if-self-eq0.false))
