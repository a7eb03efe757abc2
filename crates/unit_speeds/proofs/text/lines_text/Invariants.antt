use Rattle.std.proofs.Common.{take}
use Rattle.unit_speeds.specs.Text.{AreSpeedLines}
use Rattle.unit_speeds.proofs.text.lines_text.Given as goal

-- the lines so far
abbrev pub invariant-loop-line : goal.invariant-loop-line
invariant-loop-line l = AreSpeedLines (take l.line-index l.lines) l.text.items
