use Rattle.std.proofs.lemmas.Result.{err_from_is_err_and}
use Rattle.std.proofs.Common.{◌∙◌, ℕ, List, subst}
use Rattle.std.proofs.KnownBytes.{Appends-nil}
use Rattle.tacho.specs.Outside.{SinkTold}
use Rattle.tacho.specs.Show.{PutsPieces}
use Rattle.tacho.proofs.Printed.{text-put, wrote-cause}
use Rattle.tacho.proofs.show_command.put_piece.Goals as goal

pub returns-in_err-text-clause-writes : goal.returns-in_err-text-clause-writes
returns-in_err-text-clause-writes g c =
    let p = err_from_is_err_and c.from_residual.result c.from_residual.ensures.1 in
    rw (p.1, p.2) ((0, Appends-nil (g.K.Sink.held c.args.sink.now)), tt)

pub returns-in_err-text-clause-cause : goal.returns-in_err-text-clause-cause
returns-in_err-text-clause-cause g c = λ is.
    let p = err_from_is_err_and c.from_residual.result c.from_residual.ensures.1 in
    let made = p.1 in
    let same = p.2 in
    absurd (cc)

pub returns-clause-writes : goal.returns-clause-writes
returns-clause-writes g c =
    let before : SinkTold = record { held = g.K.Sink.held c.args.sink.now; faults = g.K.Sink.faults c.args.sink.now } in
    let after : SinkTold = record { held = g.K.Sink.held c.print_text.new.sink; faults = g.K.Sink.faults c.print_text.new.sink } in
    subst (λ (l : List ℕ). PutsPieces l c.print_text.result (g.K.Sink.held c.args.sink.now) (g.K.Sink.held c.print_text.new.sink)) (c.as_slice.ensures.value ∙ c.in_ok-text.ensures)
    (text-put c.as_slice.result.now before after c.print_text.result c.print_text.ensures)

pub returns-clause-cause : goal.returns-clause-cause
returns-clause-cause g c =
    let before : SinkTold = record { held = g.K.Sink.held c.args.sink.now; faults = g.K.Sink.faults c.args.sink.now } in
    let after : SinkTold = record { held = g.K.Sink.held c.print_text.new.sink; faults = g.K.Sink.faults c.print_text.new.sink } in
    wrote-cause c.as_slice.result.now before after c.print_text.result c.print_text.ensures
