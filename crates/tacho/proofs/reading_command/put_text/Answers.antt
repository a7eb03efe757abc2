use Rattle.std.proofs.lemmas.Result.{err_from_is_err_and}
use Rattle.std.proofs.Common.{◌≡◌, refl}
use Rattle.tacho.specs.declared.end.Fault.TheVariants.{WriteFault}
use Rattle.tacho.specs.Outside.{SinkTold}
use Rattle.tacho.specs.Read.{IsBad}
use Rattle.tacho.proofs.Printed.{reading-put, wrote-cause}
use Rattle.tacho.proofs.Puts.{not-written, unshown-put}
use Rattle.tacho.proofs.reading_command.put_text.Goals as goal

pub returns-in_err-text-clause-ends : goal.returns-in_err-text-clause-ends
returns-in_err-text-clause-ends g c =
    let p = err_from_is_err_and c.from_residual.result c.from_residual.ensures.1 in
    rw (p.1, p.2) (unshown-put c.args.reading c.args.b.now (g.K.Sink.held c.args.sink.now) (g.K.Sink.held c.args.sink.now) (c.args.sink.now ≡ c.args.sink.now) c.in_err-text.field-0.0 c.in_err-text.ensures.err refl)

pub returns-in_err-text-clause-cause : goal.returns-in_err-text-clause-cause
returns-in_err-text-clause-cause g c = λ is.
    let p = err_from_is_err_and c.from_residual.result c.from_residual.ensures.1 in
    let made = p.1 in
    let same = p.2 in
    let wrote : c.in_err-text.field-0.0 ≡ WriteFault = cc in
    absurd (not-written (λ p. IsBad c.args.reading p c.args.b.now) c.in_err-text.field-0.0 c.in_err-text.ensures.err wrote)

pub returns-clause-ends : goal.returns-clause-ends
returns-clause-ends g c =
    let before : SinkTold = record { held = g.K.Sink.held c.args.sink.now; faults = g.K.Sink.faults c.args.sink.now } in
    let after : SinkTold = record { held = g.K.Sink.held c.print_text.new.sink; faults = g.K.Sink.faults c.print_text.new.sink } in
    reading-put c.args.reading c.args.b.now c.as_slice.result.now before after (c.print_text.new.sink ≡ c.args.sink.now) c.print_text.result
    (rw c.as_slice.ensures.value c.in_ok-text.ensures.text) c.print_text.ensures

pub returns-clause-cause : goal.returns-clause-cause
returns-clause-cause g c =
    let before : SinkTold = record { held = g.K.Sink.held c.args.sink.now; faults = g.K.Sink.faults c.args.sink.now } in
    let after : SinkTold = record { held = g.K.Sink.held c.print_text.new.sink; faults = g.K.Sink.faults c.print_text.new.sink } in
    wrote-cause c.as_slice.result.now before after c.print_text.result c.print_text.ensures
