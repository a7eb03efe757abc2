use Rattle.std.proofs.Common.{arith}
use Rattle.run_outcome.proofs.Items.{seconds-here}
use Rattle.run_outcome.proofs.outcome.seconds_of.Goals as goal

pub overflow_add-total : goal.overflow_add-total
overflow_add-total c =
    let s = seconds-here c.args.items.now c.loop-i.i c.get.result.now c.get.ensures in
    let v = c.loop-i.invariant in
    omega (arith, s, v, c.item_seconds-total.ensures, c.requires.few)

pub loop-i-preserved : goal.loop-i-preserved
loop-i-preserved c =
    let s = seconds-here c.args.items.now c.loop-i.i c.get.result.now c.get.ensures in
    let v = c.loop-i.invariant in
    omega (arith, s, v, c.item_seconds-total.ensures)
