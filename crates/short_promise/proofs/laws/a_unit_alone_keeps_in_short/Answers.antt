use Rattle.short_promise.proofs.Short.{keeps-alone}
use Rattle.short_promise.proofs.laws.a_unit_alone_keeps_in_short.Goals as goal

pub returns : goal.returns
returns g c = λ image rule start log ss from marks decodes later order safe last since held complete.
    keeps-alone image rule start log ss from decodes later order marks (g.U.Medium.state c.args.unit_then.now) (g.U.Medium.state c.args.unit.now) safe last since held complete
