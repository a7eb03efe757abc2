use Rattle.std.proofs.Common.{◌≡◌, ◌∙◌, ap, is_some}
use Rattle.unit_owed.specs.Owed.{rows_in, row_index}
use Rattle.unit_owed.proofs.Finding.{of_told, row_there}
use Rattle.unit_owed.proofs.owing.has_row.Goals as goal

pub returns-clause-row : goal.returns-clause-row
returns-clause-row g c =
    of_told (g.M.Medium.state c.args.unit.now).image (λ x. c.in_ok-rows.rows ≡ rows_in x) _ c.in_ok-rows.ensures.rows (λ x rows.
    row_there (row_index c.args.number.now (rows_in x)) c.is_some.result (c.is_some.ensures ∙ (λ t. is_some ((c.row_index-row.ensures.row ∙ ap (row_index c.args.number.now) rows) t))))
