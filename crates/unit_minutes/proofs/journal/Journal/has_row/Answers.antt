use Rattle.std.proofs.Common.{◌≡◌, ℕ, List, IfSome, subst, true}
use Rattle.std.specs.Prelude.{IfOk, ◌↔◌}
use Rattle.unit_owed.specs.Rows.{HasRow}
use Rattle.unit_minutes.proofs.journal.Journal.has_row.Goals as goal

pub returns-clause-row : goal.returns-clause-row
returns-clause-row g c = subst (λ (n : List ℕ). IfOk c.has_row.result (λ found. IfSome (g.M.Medium.state c.args.unit.now).image (λ x. (found ≡ true) ↔ HasRow n x))) c.write_card_number.ensures.bytes c.has_row.ensures.row
