use Rattle.std.proofs.Common.{◌≡◌, ◌+◌, ◌≤◌, drop}
use Rattle.file_json.specs.Pieces.{days_asked}
use Rattle.file_json.proofs.pieces.count_days.Given as goal

-- those so far with the days behind are all
abbrev pub invariant-loop-at : goal.invariant-loop-at
invariant-loop-at l = (l.days + days_asked (drop l.at-index l.all) ≡ days_asked l.all) × (l.days ≤ l.at-index)
