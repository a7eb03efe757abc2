use Rattle.std.proofs.lemmas.Result.{err_from_is_err_and}
use Rattle.std.proofs.Common.{◌≡◌, ◌∙◌, ap, refl, sym, subst, arith}
use Rattle.std.specs.Prelude.{Err, IfErr}
use Rattle.run_opening.proofs.AsItWas.{as-it-is}
use Rattle.tacho.specs.declared.end.Fault.TheVariants.{WriteFault}
use Rattle.tacho.specs.Outcomes.{IsEmpty}
use Rattle.tacho.proofs.Formats.{largest-size}
use Rattle.tacho.proofs.Recordings.{reserved-empty}
use Rattle.tacho.proofs.Demo.{items-few, demo-memory, demo-refused, demo-unread, demo-done, unread-causes, anew-causes, printed-causes, as-demo, writes-demo, first-of}
use Rattle.tacho.proofs.demo_command.demo.Goals as goal

pub run_anew-requires-clause-may : goal.run_anew-requires-clause-may
run_anew-requires-clause-may g c = record {
  unit = c.requires.unit;
  image = c.as_slice.ensures.len ∙ c.in_ok-image.ensures.size ∙ largest-size;
  size_a = c.requires.card_a.sized;
  behind_a = c.requires.card_a.behind;
  size_b = (let sized = c.requires.card_b.sized in omega (arith, sized));
}

pub returns-in-Err-clause-ends : goal.returns-in-Err-clause-ends
returns-in-Err-clause-ends g c =
    let e = c.in-Err.ensures in
    rw c.refusal_anew.ensures
    (demo-refused c.args.seed _ _ c.run_anew.new.outcome c.in-Err.fault refl
    (λ b starts.
    let kept = e.kept b (record { may = starts.may; time = starts.clocks; few = rw c.in_ok-trace.ensures.items (items-few c.args.seed) }) in
    (subst IsEmpty (sym kept.nothing) (reserved-empty c.in_ok-trace.trace.items c.in_ok-reserved.reserved c.in_ok-reserved.ensures), kept.same_b))
    e.failed
    (λ b starts may. (e.kept b (record { may = starts.may; time = starts.clocks; few = rw c.in_ok-trace.ensures.items (items-few c.args.seed) })).failure (rw (c.as_slice.ensures.value ∙ c.in_ok-image.ensures.image, c.in_ok-trace.ensures.start) may))
    (writes-demo c.args.seed c.in_ok-trace.trace.start c.in_ok-trace.trace.items _ _ _ c.in_ok-trace.ensures.start c.in_ok-trace.ensures.items e.goes.most))

pub returns-in-Err-measure-clause-ends : goal.returns-in-Err-measure-clause-ends
returns-in-Err-measure-clause-ends g c =
    let e = c.in_default.ensures in
    let f = c.in-Err-measure.ensures in
    rw c.refusal_of_file.ensures
    (demo-unread c.args.seed _ _ c.run_anew.new.outcome (g.U.Medium.state c.run_anew.new.unit) c.in-Err-measure.fault refl f.unit
    (λ b may time. as-demo c.args.seed _ c.as_slice.result.now b c.in_ok-trace.trace.start c.in_ok-trace.trace.items c.run_anew.new.outcome _ _ (c.as_slice.ensures.value ∙ c.in_ok-image.ensures.image) c.in_ok-trace.ensures.start c.in_ok-trace.ensures.items
    (e.recorded b (record { may = may; time = time; few = rw c.in_ok-trace.ensures.items (items-few c.args.seed) })))
    (λ is. f.changed (ap Err is)) e.goes.faults (g.met.U.Medium.coherent c.measure.new.unit) f.bad
    (writes-demo c.args.seed c.in_ok-trace.trace.start c.in_ok-trace.trace.items _ _ _ c.in_ok-trace.ensures.start c.in_ok-trace.ensures.items e.goes.most))

pub returns-in-Err-measure-clause-causes : goal.returns-in-Err-measure-clause-causes
returns-in-Err-measure-clause-causes g c =
    rw c.refusal_of_file.ensures (unread-causes _ _ (g.U.Medium.state c.run_anew.new.unit) c.in-Err-measure.fault c.in_default.ensures.goes.faults c.in-Err-measure.ensures.unit (omega arith) (omega arith))

pub returns-in-Err-clause-causes : goal.returns-in-Err-clause-causes
returns-in-Err-clause-causes g c = rw c.refusal_anew.ensures (anew-causes _ _ c.in-Err.fault c.in-Err.ensures.failed (omega arith) (omega arith))

pub returns-clause-causes : goal.returns-clause-causes
returns-clause-causes g c =
    let err : IfErr c.print_demo.result (λ fault. fault ≡ WriteFault) = first-of (λ fault. fault ≡ WriteFault) _ c.print_demo.result c.print_demo.ensures.err in
    printed-causes _ _ c.print_demo.result err c.print_demo.ensures.cause (omega arith) c.print_demo.ensures.counts

pub returns-clause-ends : goal.returns-clause-ends
returns-clause-ends g c =
    let e = c.in_default.ensures in
    let f = c.in-Ok.ensures in
    demo-done c.args.seed _ _ c.run_anew.new.outcome (g.U.Medium.state c.run_anew.new.unit) c.in-Ok.size c.print_demo.result f.unit
    (λ b may time. as-demo c.args.seed _ c.as_slice.result.now b c.in_ok-trace.trace.start c.in_ok-trace.trace.items c.run_anew.new.outcome _ _ (c.as_slice.ensures.value ∙ c.in_ok-image.ensures.image) c.in_ok-trace.ensures.start c.in_ok-trace.ensures.items
    (e.recorded b (record { may = may; time = time; few = rw c.in_ok-trace.ensures.items (items-few c.args.seed) })))
    f.measured c.print_demo.ensures.ok c.print_demo.ensures.err c.print_demo.ensures.cause
    (writes-demo c.args.seed c.in_ok-trace.trace.start c.in_ok-trace.trace.items _ _ _ c.in_ok-trace.ensures.start c.in_ok-trace.ensures.items e.goes.most)

-- ---- there was no memory

pub returns-in_err-trace-clause-ends : goal.returns-in_err-trace-clause-ends
returns-in_err-trace-clause-ends g c =
    let p = err_from_is_err_and c.from_residual.result c.from_residual.ensures.1 in
    rw (p.1, p.2) (demo-memory c.args.seed _ _ c.args.outcome.now refl c.requires.empty (as-it-is (g.C.Chip.state c.args.card_b.now)) (record { unit = omega arith; card_a = omega arith; card_b = omega arith }))

pub returns-in_err-reserved-clause-ends : goal.returns-in_err-reserved-clause-ends
returns-in_err-reserved-clause-ends g c =
    let p = err_from_is_err_and c.from_residual-in_err-reserved.result c.from_residual-in_err-reserved.ensures.1 in
    rw (p.1, p.2) (demo-memory c.args.seed _ _ c.args.outcome.now refl c.requires.empty (as-it-is (g.C.Chip.state c.args.card_b.now)) (record { unit = omega arith; card_a = omega arith; card_b = omega arith }))

pub returns-in_err-image-clause-ends : goal.returns-in_err-image-clause-ends
returns-in_err-image-clause-ends g c =
    let p = err_from_is_err_and c.from_residual-in_err-image.result c.from_residual-in_err-image.ensures.1 in
    rw (p.1, p.2) (demo-memory c.args.seed _ _ c.args.outcome.now refl c.requires.empty (as-it-is (g.C.Chip.state c.args.card_b.now)) (record { unit = omega arith; card_a = omega arith; card_b = omega arith }))

pub returns-in_err-reserve-clause-ends : goal.returns-in_err-reserve-clause-ends
returns-in_err-reserve-clause-ends g c =
    let p = err_from_is_err_and c.from_residual-in_err-reserve.result c.from_residual-in_err-reserve.ensures.1 in
    rw (p.1, p.2) (demo-memory c.args.seed _ _ c.args.outcome.now refl c.requires.empty (as-it-is (g.C.Chip.state c.args.card_b.now)) (record { unit = omega arith; card_a = omega arith; card_b = omega arith }))

pub returns-in_err-room-clause-ends : goal.returns-in_err-room-clause-ends
returns-in_err-room-clause-ends g c =
    let p = err_from_is_err_and c.from_residual-in_err-room.result c.from_residual-in_err-room.ensures.1 in
    rw (p.1, p.2) (demo-memory c.args.seed _ _ c.args.outcome.now refl c.requires.empty (as-it-is (g.C.Chip.state c.args.card_b.now)) (record { unit = omega arith; card_a = omega arith; card_b = omega arith }))
