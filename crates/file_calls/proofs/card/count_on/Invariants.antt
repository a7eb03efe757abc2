use Rattle.std.proofs.Common.{◌≡◌, length, take}
use Rattle.std.specs.Prelude.{min}
use Rattle.file_view.specs.Histories.{minutes_on}
use Rattle.file_calls.proofs.card.count_on.Given as goal

-- the minutes of the lines so far, as far as 64 bits count
abbrev pub invariant-loop-line : goal.invariant-loop-line
invariant-loop-line l = l.count ≡ min (length (minutes_on (take l.line-index l.lines))) 18446744073709551615
