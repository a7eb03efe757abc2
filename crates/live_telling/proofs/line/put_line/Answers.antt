use Rattle.std.proofs.KnownBytes.{Appends-nil}
use Rattle.std.proofs.Common.{arith, ◌≤◌, ◌+◌, length, length-take, length-drop}
use Rattle.live_telling.proofs.Told.{appends-next, front-none, front-more, front-told, front-begun}
use Rattle.live_telling.proofs.line.put_line.Goals as goal

pub loop-done-init : goal.loop-done-init
loop-done-init g c = record { fits = omega arith; held = Appends-nil _; faults = omega arith; front = front-none _ _ _ }

pub loop-done-preserved : goal.loop-done-preserved
loop-done-preserved g c =
    let v = c.loop-done.invariant in
    let w = c.in_ok-done.ensures in
    let fits : c.loop-done.done + c.in_ok-done.field-0 ≤ length c.args.line.now = grind (arith, length-take, length-drop, w.bound) in
    record {
      fits = fits;
      held = appends-next _ _ _ _ _ _ v.held w.bytes.0 fits;
      faults = omega (arith, v.faults, w.cause.later);
      front = front-more _ _ _ _ _ _ _ v.front w.told fits;
    }

pub returns-clause-told : goal.returns-clause-told
returns-clause-told g c = λ since have. front-told _ _ _ _ _ since (omega (arith, c.loop-done-test.false)) have c.loop-done.invariant.front

pub returns-in_err-done-clause-begun : goal.returns-in_err-done-clause-begun
returns-in_err-done-clause-begun g c = λ since have. front-begun c.from_residual.result _ _ _ _ _ _ since have c.loop-done.invariant.front c.in_err-done.ensures.told
