use Rattle.std.proofs.Common.{[], ◌∷◌, None, refl, arith}
use Rattle.file_view.proofs.Leading.{leads_none}
use Rattle.file_view.proofs.front.read_front.Goals as goal

pub loop-front-init : goal.loop-front-init
loop-front-init c =
    let more = c.in_ok-front.ensures.more [] (leads_none c.args.b.now (record { end = 0; registration = None }) refl refl) in
    record { inside = c.in_ok-front.ensures.inside.1; leads = (more.0 ∷ [], omega arith, more.1) }
