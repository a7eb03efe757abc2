use Rattle.std.proofs.lemmas.Result.{err_from_is_err_and}
use Rattle.trace_text.proofs.reading.Reading.take.Goals as goal

pub returns-in_err-came-clause-fault : goal.returns-in_err-came-clause-fault
returns-in_err-came-clause-fault c = λ lines behind is.
    let p = err_from_is_err_and c.from_residual.result c.from_residual.ensures.1 in
    rw (p.1, p.2) (c.in_err-came.ensures.fault lines behind c.args.self.now.items is)

pub returns-in_err-keep-clause-fault : goal.returns-in_err-keep-clause-fault
returns-in_err-keep-clause-fault c = λ lines behind is.
    let p = err_from_is_err_and c.from_residual-in_err-keep.result c.from_residual-in_err-keep.ensures.1 in
    rw (p.1, p.2) tt

pub returns-clause-ok : goal.returns-clause-ok
returns-clause-ok c = λ lines is. rw c.in_ok-keep.ensures (c.in_ok-came.ensures.ok lines c.args.self.now.items is)
