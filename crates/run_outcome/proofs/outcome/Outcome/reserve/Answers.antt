use Rattle.std.proofs.Common.{arith}
use Rattle.run_outcome.proofs.Items.{offs-most}
use Rattle.run_outcome.proofs.outcome.Outcome.reserve.Goals as goal

pub overflow_add-cuts : goal.overflow_add-cuts
overflow_add-cuts c =
    let most = offs-most c.args.trace.now.items c.requires.well.each in
    let few = c.requires.well.within.0 in
    omega (arith, most, few)

pub overflow_mul-cuts : goal.overflow_mul-cuts
overflow_mul-cuts c =
    let most = offs-most c.args.trace.now.items c.requires.well.each in
    let few = c.requires.well.within.0 in
    let offs = c.offs_of.ensures in
    let total = c.seconds_of.ensures in
    omega (arith, most, few, offs, total)
