use Rattle.std.proofs.Common.{arith}
use Rattle.std.proofs.lemmas.Result.{err_from_is_err_and}
use Rattle.file_view.proofs.Placing.{none_yet, one_more, all_read, bad_first, bad_behind, faulty_at}
use Rattle.file_view.proofs.places.messages_at.Goals as goal

pub loop-place-init : goal.loop-place-init
loop-place-init c =
    let taken = c.in_ok-place.ensures.taken in
    let next = taken.1 in
    record {
      some = omega (arith, next.end_is);
      inside = next.inside;
      front = one_more c.args.b.now 0 c.in_ok-place.place c.new-all.result.items c.take_message.new.all.items taken.0 (none_yet c.args.b.now c.new-all.result.items c.new-all.ensures.items) next taken.2;
    }

pub loop-place-preserved : goal.loop-place-preserved
loop-place-preserved c =
    let taken = c.in_ok-place-2.ensures.taken in
    let next = taken.1 in
    record {
      some = omega (arith, next.end_is, c.loop-place.invariant.some);
      inside = next.inside;
      front = one_more c.args.b.now c.loop-place.place _ c.loop-place.all.items c.take_message-in-loop-place.new.all.items taken.0 c.loop-place.invariant.front next taken.2;
    }

pub returns-clause-placed : goal.returns-clause-placed
returns-clause-placed c = all_read c.args.b.now c.loop-place.place c.loop-place.all.items c.loop-place.invariant.front c.loop-place.invariant.some (omega (arith, c.loop-place-test.false))

pub returns-in_err-place-clause-bad : goal.returns-in_err-place-clause-bad
returns-in_err-place-clause-bad c =
    let p = err_from_is_err_and c.from_residual.result c.from_residual.ensures.1 in
    rw (p.1, p.2) (faulty_at _ 0 c.args.b.now (bad_first c.args.b.now) c.in_err-place.ensures.bad)

pub returns-in_err-place-2-clause-bad : goal.returns-in_err-place-2-clause-bad
returns-in_err-place-2-clause-bad c =
    let p = err_from_is_err_and c.from_residual-in_err-place-2.result c.from_residual-in_err-place-2.ensures.1 in
    rw (p.1, p.2)
    (faulty_at _ c.loop-place.place c.args.b.now
    (bad_behind c.args.b.now c.loop-place.place c.loop-place.all.items c.loop-place.invariant.front c.loop-place-test.true) c.in_err-place-2.ensures.bad)
