use Rattle.std.proofs.Common.{◌∙◌, ℕ, ◌+◌, take, ap, sym, arith}
use Rattle.file_view.specs.Histories.{minutes_on}
use Rattle.slot_bars.proofs.Empty.{no_bar}
use Rattle.day_totals.specs.Figures.{total}
use Rattle.day_totals.proofs.Counting.{one_bar_more, total_within}
use Rattle.day_totals.proofs.figures.minutes_in.Goals as goal

pub overflow_add-sum : goal.overflow_add-sum
overflow_add-sum c =
    let bars = c.args.bars.now in
    let i = c.loop-bar.bar-index in
    omega (arith, one_bar_more c.args.figure bars i no_bar c.loop-bar-test.true, total_within c.args.figure bars (i + 1), c.requires, c.line_total-sum.ensures, c.loop-bar.invariant)

pub loop-bar-preserved : goal.loop-bar-preserved
loop-bar-preserved c =
    let bars = c.args.bars.now in
    let i = c.loop-bar.bar-index in
    ap (λ (n : ℕ). n + c.line_total-sum.result) c.loop-bar.invariant
    ∙ ap (λ (n : ℕ). total c.args.figure (minutes_on (take c.loop-bar.bar-index c.args.bars.now)) + n) c.line_total-sum.ensures
    ∙ sym (one_bar_more c.args.figure bars i no_bar c.loop-bar-test.true)

pub overflow_cast-result : goal.overflow_cast-result
overflow_cast-result c = omega (arith, c.loop-bar.invariant, total_within c.args.figure c.args.bars.now c.loop-bar.bar-index, c.requires)

pub returns-clause-few : goal.returns-clause-few
returns-clause-few c = omega (arith, c.loop-bar.invariant, total_within c.args.figure c.args.bars.now c.loop-bar.bar-index, c.requires)
