use Rattle.std.proofs.Common.{◌≡◌, ◌∙◌, ℕ, Some, None, option_map, sym}
use Rattle.unit_owed.proofs.Taking.{begun_is}
use Rattle.unit_owed.proofs.rows.begun_row.Goals as goal

never : (r : ℕ) → None ≡ Some r → ⊥
never r is = cc

-- there is always a row
pub unreachable-requires : goal.unreachable-requires
unreachable-requires c =
    let begun = begun_is c.args.number.now (option_map (λ s. s.now) c.args.spared) c.args.rows.now in
    never begun.0 (c.in-None.ensures.row ∙ begun.1.0)

pub returns-clause-row : goal.returns-clause-row
returns-clause-row c = sym c.in-Some.ensures.row
