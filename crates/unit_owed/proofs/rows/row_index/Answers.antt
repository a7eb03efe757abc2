use Rattle.std.proofs.Common.{◌≡◌, ◌∙◌, ℕ, sym, ap, arith, Bool}
use Rattle.std.specs.Prelude.{find}
use Rattle.std.specs.List.{range_with_len}
use Rattle.unit_owed.specs.Owed.{is_row_of}
use Rattle.unit_owed.specs.Searching.{or_this}
use Rattle.unit_owed.proofs.Finding.{found_next}
use Rattle.unit_owed.proofs.rows.row_index.Goals as goal

pub loop-row-preserved : goal.loop-row-preserved
loop-row-preserved c =
    let test : ℕ → Bool = is_row_of c.args.number.now c.args.rows.now in
    let n = c.loop-row.row in
    let v = c.loop-row.invariant in
    record { found = c.or_this-found.ensures.row ∙ (λ t. or_this (v.found t) n (c.is_row_of.ensures t)) ∙ sym (found_next test n); below = c.or_this-found.ensures.below }

pub returns-clause-row : goal.returns-clause-row
returns-clause-row c =
    let test : ℕ → Bool = is_row_of c.args.number.now c.args.rows.now in
    let end : c.loop-row.row ≡ 8 = omega (arith, c.loop-row-test.false, c.loop-row.auto.row-end) in
    c.loop-row.invariant.found ∙ ap (λ (n : ℕ). find test (range_with_len 0 n)) end
