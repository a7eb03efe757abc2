use Rattle.std.proofs.lemmas.Result.{err_from_is_err_and}
use Rattle.file_view.specs.UnitFiles.{IsBadUnitFile}
use Rattle.tacho.proofs.Views.{refused-by}
use Rattle.tacho.proofs.report_command.unit_chart_text.Goals as goal

pub returns-in_err-unit_chart-clause-err : goal.returns-in_err-unit_chart-clause-err
returns-in_err-unit_chart-clause-err c =
    let p = err_from_is_err_and c.from_residual.result c.from_residual.ensures.1 in
    rw (p.1, p.2) (refused-by (λ place. IsBadUnitFile place c.args.b.now) c.in_err-unit_chart.field-0.0 c.in_err-unit_chart.ensures.bad)
