use Rattle.std.proofs.Common.{[], ◌∷◌, ◌++◌, ◌∙◌}
use Rattle.unit_rule.proofs.Travelling.{odometer-sum}
use Rattle.unit_rule.proofs.laws.an_odometer_is_a_sum.Goals as goal

pub returns : goal.returns
returns g c = λ start b t has x left.
    let shown = has.now x left in
    (shown.leg, shown.side, shown.is ∙ odometer-sum start (t.before ++ shown.leg ∷ []) has.begins)
