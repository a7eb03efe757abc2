use Rattle.std.proofs.Common.{Bool, ap, sym, ◌∙◌, arith}
use Rattle.std.specs.Prelude.{if◌then◌else◌, ℕ}
use Rattle.run_outcome.proofs.Items.{insertions-here}
use Rattle.run_outcome.proofs.outcome.insertions_of.Goals as goal
use Rattle.run_outcome.proofs.outcome.insertions_of.Goals.{then-is_insertion, else-is_insertion}

pub loop-i-preserved : goal.loop-i-preserved
loop-i-preserved c =
    let o = insertions-here c.args.items.now c.loop-i.i c.get.result.now c.get.ensures in
    let v = c.loop-i.invariant in
    elim c.if-is_insertion.branch [
      | then-is_insertion w ↦ let one = ap {B = ℕ} (λ (b : Bool). if b then 1 else 0) (sym c.is_insertion.ensures ∙ w.if-is_insertion.true) in let n = w.count-is in record { most = omega (arith, v.most, n); rest = omega (arith, v.rest, o, one, n) }
      | else-is_insertion w ↦ let none = ap {B = ℕ} (λ (b : Bool). if b then 1 else 0) (sym c.is_insertion.ensures ∙ w.if-is_insertion.false) in let n = w.count-is in record { most = omega (arith, v.most, n); rest = omega (arith, v.rest, o, none, n) }
    ]
