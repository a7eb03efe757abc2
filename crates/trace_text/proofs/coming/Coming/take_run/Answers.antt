use Rattle.std.proofs.Common.{refl, ◌∷◌, []}
use Rattle.std.proofs.lemmas.Result.{err_from_is_err_and}
use Rattle.trace_model.specs.declared.Item.TheVariants.{Run}
use Rattle.trace_text.specs.RunLines.{run_line}
use Rattle.trace_text.proofs.LinesRead.{item-long, read-item}
use Rattle.trace_text.proofs.Runs.{run-item}
use Rattle.trace_text.proofs.coming.Coming.take_run.Goals as goal

pub returns-in_err-total-clause-fault : goal.returns-in_err-total-clause-fault
returns-in_err-total-clause-fault c = λ lines behind items is.
    let p = err_from_is_err_and c.from_residual.result c.from_residual.ensures.1 in
    let item = Run c.args.seconds c.args.speed in
    let reads = run-item c.args.seconds c.args.speed c.requires.range c.args.self.now.form in
    rw (p.1, p.2) (item-long lines behind items (run_line c.args.seconds c.args.speed) c.args.self.now c.args.start item c.in_err-total.field-0.0 is c.requires.later refl reads c.in_err-total.ensures.fault)

pub returns-clause-ok : goal.returns-clause-ok
returns-clause-ok c = λ lines items is.
    let item = Run c.args.seconds c.args.speed in
    let reads = run-item c.args.seconds c.args.speed c.requires.range c.args.self.now.form in
    read-item lines items (run_line c.args.seconds c.args.speed) c.args.self.now c.args.start c.in_ok-total.total item (item ∷ []) is c.requires.later refl reads refl c.in_ok-total.ensures.ok
