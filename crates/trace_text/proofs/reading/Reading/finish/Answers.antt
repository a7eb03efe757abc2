use Rattle.std.proofs.Common.{◌≡◌, ℕ, List, sym, subst}
use Rattle.std.proofs.lemmas.Result.{err_from_is_err_and}
use Rattle.trace_model.specs.declared.Item.{Item}
use Rattle.trace_text.specs.Trace.{IsTraceOf}
use Rattle.trace_text.proofs.reading.Reading.finish.Goals as goal

pub returns-in_err-came : goal.returns-in_err-came
returns-in_err-came c = λ lines is.
    let p = err_from_is_err_and c.from_residual.result c.from_residual.ensures.1 in
    rw (p.1, p.2) (c.in_err-came.ensures.fault lines c.args.self.items is)

pub returns : goal.returns
returns c = λ lines is.
    let t = c.in_ok-came.ensures.ok lines c.args.self.items is in
    let found = t.1 in
    let was = c.in-Some.is in
    let same : t.0 ≡ c.in-Some.start = cc in
    subst (λ (s : ℕ). IsTraceOf c.args.self.coming.form lines s c.keep.new.items) same
    (subst (λ (items : List Item). IsTraceOf c.args.self.coming.form lines t.0 items) (sym c.in_ok-keep.ensures) t.2)
