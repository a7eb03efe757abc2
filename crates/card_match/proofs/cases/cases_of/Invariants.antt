use Rattle.std.proofs.Common.{◌≡◌, take}
use Rattle.file_view.specs.Histories.{minutes_on}
use Rattle.card_match.proofs.Lines.{cases_on}
use Rattle.card_match.proofs.cases.cases_of.Given as goal

-- the lines so far
abbrev pub invariant-loop-line : goal.invariant-loop-line
invariant-loop-line l = l.cases.items ≡ cases_on (minutes_on (take l.line-index l.lines))
