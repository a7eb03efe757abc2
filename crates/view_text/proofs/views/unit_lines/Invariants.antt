use Rattle.std.proofs.Common.{◌≡◌, take}
use Rattle.view_model.specs.Lines.{lines_of, same_unit}
use Rattle.view_text.proofs.views.unit_lines.Given as goal

-- the lines of the minutes so far
abbrev pub invariant-loop-minute : goal.invariant-loop-minute
invariant-loop-minute l = l.lines.items ≡ lines_of same_unit (take l.minute-index l.minutes)
