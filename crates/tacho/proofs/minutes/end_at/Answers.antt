use Rattle.std.proofs.Common.{◌≡◌, ℕ, ◌+◌, ◌-◌, length, sym, arith}
use Rattle.tacho.proofs.LineRuns.{no_line, ended-set}
use Rattle.tacho.proofs.minutes.end_at.Goals as goal

pub returns-then-count-gt0 : goal.returns-then-count-gt0
returns-then-count-gt0 c =
    let lines = c.args.lines.now in
    let i : ℕ = length lines - 1 in
    let count : length lines ≡ i + 1 = omega (arith, c.if-count-gt0.true) in
    sym (ended-set c.args.minute lines i no_line count)
