use Rattle.std.proofs.Common.{◌≡◌, ℕ, List, Option, option_map, Bor, sym, subst}
use Rattle.unit_owed.specs.Rows.{spared_index}
use Rattle.unit_owed.proofs.rows.spared_index.Goals as goal

pub returns-in-Some : goal.returns-in-Some
returns-in-Some c = record { row = subst (λ (o : Option (Bor (List ℕ))). c.row_index.result ≡ spared_index (option_map (λ s. s.now) o) c.args.rows.now) (sym c.in-Some.is) c.row_index.ensures.row }
