use Rattle.std.proofs.Common.{inl, inr, length, refl, arith}
use Rattle.file_extract.proofs.OddFiles.{places_more, places_last, places_none, places_all}
use Rattle.file_extract.proofs.odd_days.places_back.Goals as goal

pub loop-day-preserved : goal.loop-day-preserved
loop-day-preserved c =
    places_more c.loop-day.places.items c.args.most c.loop-day.day (length c.args.string.now) c.loop-day.place c.args.string.now _ c.loop-day.invariant (omega arith)
    c.add_place.new.places.items c.two_in-previous.result _ c.in_ok-add_place.ensures (omega arith) c.two_in-previous.ensures (omega arith) (omega arith) refl

pub returns-then-size-place : goal.returns-then-size-place
returns-then-size-place c = places_none c.loop-day.places.items c.args.most c.loop-day.day (length c.args.string.now) c.loop-day.place c.args.string.now _ c.loop-day.invariant (omega arith) (omega arith)

pub returns-then-previous-eq0 : goal.returns-then-previous-eq0
returns-then-previous-eq0 c =
    places_last c.loop-day.places.items c.args.most c.loop-day.day (length c.args.string.now) c.loop-day.place c.args.string.now _ c.loop-day.invariant (omega arith)
    c.add_place.new.places.items c.two_in-previous.result c.in_ok-add_place.ensures (omega arith) c.two_in-previous.ensures (inl (omega arith))

pub returns-then-size-previous : goal.returns-then-size-previous
returns-then-size-previous c =
    places_last c.loop-day.places.items c.args.most c.loop-day.day (length c.args.string.now) c.loop-day.place c.args.string.now _ c.loop-day.invariant (omega arith)
    c.add_place.new.places.items c.two_in-previous.result c.in_ok-add_place.ensures (omega arith) c.two_in-previous.ensures (inr (omega arith))

pub returns : goal.returns
returns c = places_all c.loop-day.places.items c.args.most c.loop-day.day (length c.args.string.now) c.loop-day.place c.args.string.now _ c.loop-day.invariant (omega arith)
