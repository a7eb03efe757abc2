use Rattle.std.proofs.Common.{◌∙◌, option_map}
use Rattle.unit_owed.specs.Rows.{or_else, least, empty_index, spared_index}
use Rattle.unit_owed.proofs.rows.begun_index.Goals as goal

pub returns-in-Some-clause-row : goal.returns-in-Some-clause-row
returns-in-Some-clause-row c =
    let rows = c.args.rows.now in
    λ t. or_else (c.in-Some.ensures.row t) (or_else (empty_index rows) (least rows (spared_index (option_map (λ s. s.now) c.args.spared) rows)))

pub returns-in-Some-empty_index-clause-row : goal.returns-in-Some-empty_index-clause-row
returns-in-Some-empty_index-clause-row c =
    let rows = c.args.rows.now in
    λ t. or_else (c.in_default.ensures.row t) (or_else (c.in-Some-empty_index.ensures.row t) (least rows (spared_index (option_map (λ s. s.now) c.args.spared) rows)))

pub returns-clause-row : goal.returns-clause-row
returns-clause-row c =
    let rows = c.args.rows.now in
    c.least.ensures.row ∙ (λ t. or_else (c.in_default.ensures.row t) (or_else (c.in_default-empty_index.ensures.row t) (least rows (c.spared_index.ensures.row t))))
