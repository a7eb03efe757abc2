use Rattle.std.proofs.Common.{◌≡◌, ℕ, map, take}
use Rattle.file_view.specs.Histories.{minute_told, minutes_on}
use Rattle.card_match.specs.Cases.{begins_by, is_from}
use Rattle.file_calls.proofs.unit.first_on.Given as goal

-- the lines so far
abbrev pub invariant-loop-line : goal.invariant-loop-line
invariant-loop-line l = (day : ℕ) → begins_by (map minute_told (minutes_on (take l.line-index l.lines))) day ≡ is_from l.first day
