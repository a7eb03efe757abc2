use Rattle.std.proofs.lemmas.Result.{err_from_is_err_and}
use Rattle.device_state.specs.Lines.{state_lines}
use Rattle.tacho.specs.End.{end_of}
use Rattle.tacho.proofs.Printed.{text-ends}
use Rattle.tacho.proofs.Stated.{text-printed, none-printed}
use Rattle.tacho.proofs.state_command.print_state.Goals as goal

pub returns-in_err-text-clause-prints : goal.returns-in_err-text-clause-prints
returns-in_err-text-clause-prints g c =
    let p = err_from_is_err_and c.from_residual.result c.from_residual.ensures.1 in
    rw (p.1, p.2) (none-printed (state_lines c.args.told.now) _)

pub returns-clause-prints : goal.returns-clause-prints
returns-clause-prints g c =
    text-printed (state_lines c.args.told.now) c.as_slice.result.now _ _ (end_of c.print_text.result)
    (rw c.as_slice.ensures.value c.in_ok-text.ensures) (text-ends _ _ _ c.print_text.result c.print_text.ensures)
