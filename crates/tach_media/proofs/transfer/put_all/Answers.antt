use Rattle.std.proofs.Common.{arith, ◌≤◌, ◌+◌, length, length-take, length-drop}
use Rattle.tach_media.proofs.Parts.{Appends-next}
use Rattle.tach_media.proofs.transfer.put_all.Goals as goal

pub loop-done-preserved : goal.loop-done-preserved
loop-done-preserved g c =
    let v = c.loop-done.invariant in
    let w = c.in_ok-done.ensures in
    let fits : c.loop-done.done + c.in_ok-done.field-0 ≤ length c.args.bytes.now = grind (arith, length-take, length-drop, w.bound) in
    (fits, Appends-next _ _ _ _ _ _ v.1 w.bytes.0 fits, omega (arith, v.2, w.cause.later))
