use Rattle.std.proofs.Common.{arith}
use Rattle.file_extract.proofs.Fronts.{none_read, one_read, ends_bad, ends_whole}
use Rattle.file_extract.proofs.unit.messages_end.Goals as goal

pub loop-place-init : goal.loop-place-init
loop-place-init c = none_read c.args.b.now

pub loop-place-preserved : goal.loop-place-preserved
loop-place-preserved c = one_read c.args.b.now c.loop-place.place c.in-Ok.read c.loop-place.invariant c.in-Ok.ensures.read c.in-Ok.ensures.inside

pub returns-in_default : goal.returns-in_default
returns-in_default c = ends_bad c.args.b.now c.loop-place.place c.loop-place.invariant c.in_default.ensures.bad.1

pub returns : goal.returns
returns c = ends_whole c.args.b.now c.loop-place.place c.loop-place.invariant (omega (arith, c.loop-place-test.false))
