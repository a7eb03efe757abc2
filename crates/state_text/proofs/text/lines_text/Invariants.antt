use Rattle.std.proofs.Common.{take}
use Rattle.state_text.specs.Text.{AreLinesText}
use Rattle.state_text.proofs.text.lines_text.Given as goal

-- the lines so far
abbrev pub invariant-loop-line : goal.invariant-loop-line
invariant-loop-line l = AreLinesText (take l.line-index l.lines) l.text.items
