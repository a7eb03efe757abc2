use Rattle.std.proofs.Common.{◌≡◌, ◌∙◌, ℕ, None, sym, ap, arith}
use Rattle.std.specs.Prelude.{fold}
use Rattle.std.specs.List.{range_with_len}
use Rattle.unit_owed.specs.Rows.{lesser}
use Rattle.unit_owed.proofs.Finding.{folded_next}
use Rattle.unit_owed.proofs.rows.least.Goals as goal

pub loop-row-preserved : goal.loop-row-preserved
loop-row-preserved c =
    let n = c.loop-row.row in
    let v = c.loop-row.invariant in
    record { best = c.lesser-best.ensures.row ∙ (λ t. lesser c.args.rows.now c.args.spared (v.best t) n) ∙ sym (folded_next (lesser c.args.rows.now c.args.spared) n); below = c.lesser-best.ensures.below }

pub returns-clause-row : goal.returns-clause-row
returns-clause-row c =
    let end : c.loop-row.row ≡ 8 = omega (arith, c.loop-row-test.false, c.loop-row.auto.row-end) in
    c.loop-row.invariant.best ∙ ap (λ (n : ℕ). fold (lesser c.args.rows.now c.args.spared) None (range_with_len 0 n)) end
