use Rattle.std.proofs.Common.{[], None, refl}
use Rattle.file_view.proofs.UnitFronts.{told_none, unit_front_first, unit_front_more}
use Rattle.file_view.proofs.unit.Told.read.Goals as goal

pub loop-place-init : goal.loop-place-init
loop-place-init c =
    let taken = c.in_ok-place.ensures.taken [] (told_none c.args.b.now (record { time = None; days = c.new.result }) refl c.new.ensures.items) in
    record { inside = taken.inside; front = unit_front_first c.args.b.now c.in_ok-place.place c.take_at.new.self taken }

pub loop-place-preserved : goal.loop-place-preserved
loop-place-preserved c =
    let front = c.loop-place.invariant.front in
    let taken = c.in_ok-place-2.ensures.taken front.messages front.told_is in
    record { inside = taken.inside; front = unit_front_more c.args.b.now c.loop-place.place _ c.loop-place.told c.take_at-in-loop-place.new.self front taken }
