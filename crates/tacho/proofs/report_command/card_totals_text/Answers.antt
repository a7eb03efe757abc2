use Rattle.std.proofs.lemmas.Result.{err_from_is_err_and}
use Rattle.file_view.specs.CardFiles.{IsBadCardFile}
use Rattle.tacho.proofs.Views.{refused-by}
use Rattle.tacho.proofs.report_command.card_totals_text.Goals as goal

pub returns-in_err-card_totals-clause-err : goal.returns-in_err-card_totals-clause-err
returns-in_err-card_totals-clause-err c =
    let p = err_from_is_err_and c.from_residual.result c.from_residual.ensures.1 in
    rw (p.1, p.2) (refused-by (λ place. IsBadCardFile place c.args.b.now) c.in_err-card_totals.field-0.0 c.in_err-card_totals.ensures.bad)
