use Rattle.std.proofs.lemmas.Result.{err_from_is_err_and}
use Rattle.file_view.specs.UnitFiles.{IsBadUnitFile}
use Rattle.tacho.proofs.Views.{refused-by}
use Rattle.tacho.proofs.show_command.pieces_of_unit.Goals as goal

pub returns-in_err-unit_pieces-clause-err : goal.returns-in_err-unit_pieces-clause-err
returns-in_err-unit_pieces-clause-err c =
    let p = err_from_is_err_and c.from_residual.result c.from_residual.ensures.1 in
    rw (p.1, p.2) (refused-by (λ place. IsBadUnitFile place c.args.b.now) c.in_err-unit_pieces.field-0.0 c.in_err-unit_pieces.ensures.bad)
