use Rattle.std.proofs.Common.{◌≡◌, ◌+◌, length, take}
use Rattle.file_view.specs.Histories.{minutes_on}
use Rattle.file_calls.proofs.card.entry_on.Given as goal

-- so many are left behind the lines so far
abbrev pub invariant-loop-line : goal.invariant-loop-line
invariant-loop-line l = l.left + length (minutes_on (take l.line-index l.lines)) ≡ l.nth
