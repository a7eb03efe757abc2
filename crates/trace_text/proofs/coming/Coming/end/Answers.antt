use Rattle.std.proofs.lemmas.Result.{err_from_is_err_and}
use Rattle.trace_text.proofs.LinesRead.{end-long}
use Rattle.trace_text.proofs.coming.Coming.end.Goals as goal

pub returns-in_err-put_in_behind-clause-fault : goal.returns-in_err-put_in_behind-clause-fault
returns-in_err-put_in_behind-clause-fault c = λ lines items is.
    let p = err_from_is_err_and c.from_residual.result c.from_residual.ensures.1 in
    rw (p.1, p.2) (end-long lines items c.args.self.now c.in-Some.start c.in_err-put_in_behind.field-0.0 is c.in-Some.is c.in_err-put_in_behind.ensures.fault)
