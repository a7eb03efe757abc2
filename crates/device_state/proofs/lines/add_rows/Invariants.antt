use Rattle.std.proofs.Common.{◌≡◌, ◌++◌, take}
use Rattle.std.specs.List.{flat_map}
use Rattle.device_state.specs.Lines.{owed_line}
use Rattle.device_state.proofs.lines.add_rows.Given as goal

-- the lines of the rows so far
abbrev pub invariant-loop-row : goal.invariant-loop-row
invariant-loop-row l = l.lines.items ≡ l.initial.lines.items ++ flat_map owed_line (take l.row-index l.rows)
