use Rattle.std.proofs.Common.{◌≡◌, ◌∙◌, ℕ, ◌+◌, ◌-◌, ◌<◌, length, get_or, ap, arith}
use Rattle.view_model.specs.declared.Line.{Line}
use Rattle.slot_bars.specs.DayLines.{is_behind}
use Rattle.slot_bars.proofs.DayRuns.{looked_behind, none_behind}
use Rattle.slot_bars.proofs.days.goes_on.Goals as goal

pub returns-then-end-lines : goal.returns-then-end-lines
returns-then-end-lines g c = none_behind c.args.lines.now (c.args.end - 1) (omega (arith, c.requires))

pub returns : goal.returns
returns g c =
    let lines = c.args.lines.now in
    let i : ℕ = c.args.end - 1 in
    let place : c.args.end ≡ c.args.end - 1 + 1 = omega (arith, c.requires) in
    let low : c.args.end - 1 + 1 < length c.args.lines.now = omega (arith, c.requires) in
    c.is_behind.ensures
    ∙ ap (λ (l : Line _). is_behind l c.index-lines-end-2.result) c.index-lines-end.is
    ∙ ap (λ (l : Line _). is_behind (get_or c.args.lines.now (c.args.end - 1) c.index-lines-end.result) l) (c.index-lines-end-2.is ∙ ap (λ (k : ℕ). get_or c.args.lines.now k c.index-lines-end-2.result) place)
    ∙ looked_behind lines i c.index-lines-end.result c.index-lines-end-2.result low
