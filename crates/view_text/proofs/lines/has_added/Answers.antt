use Rattle.std.proofs.Common.{◌≡◌, ◌∙◌, sym, ℕ, ◌+◌, ◌-◌, ◌<◌, true, false, length, get_or, arith}
use Rattle.std.proofs.lemmas.List.{get_or_default}
use Rattle.view_text.specs.Growing.{follows}
use Rattle.view_text.proofs.More.{joins-last, begins-line}
use Rattle.view_text.proofs.lines.has_added.Goals as goal

pub returns-then-goes_on-clause-added : goal.returns-then-goes_on-clause-added
returns-then-goes_on-clause-added g c =
    let lines = c.args.lines.now in
    let i : ℕ = length lines - 1 in
    let last = c.index-lines-count.result in
    let other = c.index-lines-count-then-goes_on.result in
    let count : length lines ≡ i + 1 = omega (arith, c.if-count-eq0.false) in
    let lt : i < length lines = omega (arith, count) in
    let on : follows g.T.Shown.same (get_or lines i other) c.args.minute ≡ true = rw (get_or_default lines i other last lt, ← c.index-lines-count.is) (sym c.goes_on.ensures ∙ c.if-goes_on.true) in
    sym (joins-last g.T.Shown.same lines c.args.minute i other count on)

pub returns-clause-apart : goal.returns-clause-apart
returns-clause-apart g c =
    let lines = c.args.lines.now in
    let i : ℕ = length lines - 1 in
    let last = c.index-lines-count.result in
    let count : length lines ≡ i + 1 = omega (arith, c.if-count-eq0.false) in
    let off : follows g.T.Shown.same (get_or lines i last) c.args.minute ≡ false = rw (← c.index-lines-count.is) (sym c.goes_on.ensures ∙ c.if-goes_on.false) in
    begins-line g.T.Shown.same lines c.args.minute i last count off
