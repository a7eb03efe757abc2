use Rattle.std.proofs.lemmas.Result.{err_from_is_err_and}
use Rattle.trace_text.specs.RunLines.{run_line}
use Rattle.trace_text.specs.Text.{text_lines}
use Rattle.trace_text.proofs.read.take_line.Goals as goal

pub returns-in_err-take_run-clause-fault : goal.returns-in_err-take_run-clause-fault
returns-in_err-take_run-clause-fault c = λ lines is.
    let p = err_from_is_err_and c.from_residual.result c.from_residual.ensures.1 in
    let r = c.in-Some-first_run in
    rw (p.1, p.2) (rw r.ensures.lines (c.in_err-take_run.ensures.fault lines (text_lines r.rest.now) is))

pub returns-in-Some-first_run-clause-ok : goal.returns-in-Some-first_run-clause-ok
returns-in-Some-first_run-clause-ok c =
    let r = c.in-Some-first_run in (run_line r.seconds r.speed, r.ensures.lines, c.in_ok-take_run.ensures.ok)

pub returns-in_err-take-clause-fault : goal.returns-in_err-take-clause-fault
returns-in_err-take-clause-fault c = λ lines is.
    let p = err_from_is_err_and c.from_residual-in_err-take.result c.from_residual-in_err-take.ensures.1 in
    rw (p.1, p.2) (rw c.next_line.ensures.lines (c.in_err-take.ensures.fault lines (text_lines c.next_line.result.1.now) is))
