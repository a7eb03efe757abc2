use Rattle.std.proofs.Common.{◌≡◌, ◌↔◌, ℕ, Bool, true, List, Option, None, Some, IfSome, sym, subst, refl, rules}
use Rattle.worked_rows.proofs.unit.owed_tests.put.Goals as goal

row_known : (o p : Option (List ℕ)) (found : Bool) (H : List ℕ → Type 0) → p ≡ o → IfSome o (λ x. (found ≡ true) ↔ H x) → found ≡ true → IfSome p H
row_known o p found H same said on = subst (λ (q : Option (List ℕ)). IfSome q H) (sym same) (by o said)
  where
    by : (o : Option (List ℕ)) → IfSome o (λ x. (found ≡ true) ↔ H x) → IfSome o H
    by None said = tt
    by (Some x) said = said.0 on

pub put_owed-requires-clause-row : goal.put_owed-requires-clause-row
put_owed-requires-clause-row g c =
    let on : c.in_ok-found.found ≡ true = search rules in
    row_known (g.M.Medium.state c.args.unit.now).image (g.M.Medium.state c.has_row.new.unit).image c.in_ok-found.found _ (c.in_ok-found.ensures.reads.same refl) c.in_ok-found.ensures.row on
