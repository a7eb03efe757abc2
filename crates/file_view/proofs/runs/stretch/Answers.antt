use Rattle.std.proofs.Common.{◌≡◌, ℕ, ◌+◌, ◌-◌, length, arith}
use Rattle.file_view.proofs.Growing.{last_set, last_of_none}
use Rattle.file_view.proofs.runs.stretch.Goals as goal

pub returns-then-count-eq0 : goal.returns-then-count-eq0
returns-then-count-eq0 g c = last_of_none c.args.last c.args.lines.now (omega arith)

pub returns : goal.returns
returns g c =
    let i : ℕ = length c.args.lines.now - 1 in
    let count : length c.args.lines.now ≡ i + 1 = omega (arith, c.if-count-eq0.false) in
    last_set c.args.lines.now i c.index-lines-count.result c.args.last count
