use Rattle.std.proofs.Common.{Bool, ap, sym, ◌∙◌, arith}
use Rattle.std.specs.Prelude.{if◌then◌else◌, ℕ}
use Rattle.run_outcome.proofs.Items.{offs-here}
use Rattle.run_outcome.proofs.outcome.offs_of.Goals as goal
use Rattle.run_outcome.proofs.outcome.offs_of.Goals.{then-is_off, else-is_off}

pub loop-i-preserved : goal.loop-i-preserved
loop-i-preserved c =
    let o = offs-here c.args.items.now c.loop-i.i c.get.result.now c.get.ensures in
    let v = c.loop-i.invariant in
    elim c.if-is_off.branch [
      | then-is_off w ↦ let one = ap {B = ℕ} (λ (b : Bool). if b then 1 else 0) (sym c.is_off.ensures ∙ w.if-is_off.true) in let n = w.count-is in record { most = omega (arith, v.most, n); rest = omega (arith, v.rest, o, one, n) }
      | else-is_off w ↦ let none = ap {B = ℕ} (λ (b : Bool). if b then 1 else 0) (sym c.is_off.ensures ∙ w.if-is_off.false) in let n = w.count-is in record { most = omega (arith, v.most, n); rest = omega (arith, v.rest, o, none, n) }
    ]
