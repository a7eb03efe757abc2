use Rattle.std.proofs.Common.{◌≡◌, ◌∙◌, ℕ, List, Option, option_map, sym, ap}
use Rattle.unit_model.specs.Image.{last_kept}
use Rattle.unit_owed.specs.Owed.{rows_in, row_in, row_index, owed_of, owed_to}
use Rattle.unit_owed.specs.Rows.{begun_index, IsRowFor}
use Rattle.unit_owed.proofs.Counting.{owed_by, both_told}
use Rattle.unit_owed.proofs.Finding.{of_told}
use Rattle.unit_owed.proofs.owing.ask.Goals as goal

pub returns-clause-owed : goal.returns-clause-owed
returns-clause-owed g c =
    let number = c.args.number.now in
    let s = c.args.session in
    let a = c.args.after in
    both_told (g.M.Medium.state c.args.unit.now).image (λ x. c.in_ok-rows.rows ≡ rows_in x) (λ x. c.args.kept ≡ last_kept x) (λ x. c.owed_in-owed.result.items ≡ owed_to x number s a)
    c.in_ok-rows.ensures.rows c.requires.kept (λ x rows kept.
    c.owed_in-owed.ensures.items ∙ ap (λ (o : Option ℕ). owed_of s a c.args.kept (option_map (row_in c.in_ok-rows.rows) o)) c.row_index.ensures.row
    ∙ (λ t. owed_of s a (kept t) (option_map (row_in (rows t)) (row_index number (rows t)))) ∙ owed_by x number s a)

pub returns-clause-row : goal.returns-clause-row
returns-clause-row g c =
    let number = c.args.number.now in
    let spared : Option (List ℕ) = option_map (λ s. s.now) c.args.spared in
    of_told (g.M.Medium.state c.args.unit.now).image (λ x. c.in_ok-rows.rows ≡ rows_in x) (IsRowFor c.begun_row-row.result number spared) c.in_ok-rows.ensures.rows
    (λ x rows. ap (begun_index number spared) (sym rows) ∙ c.begun_row-row.ensures.row)
