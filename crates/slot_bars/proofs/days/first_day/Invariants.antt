use Rattle.std.proofs.Common.{◌≡◌, ◌<◌, ◌≤◌, ◌+◌, ◌-◌, length, drop}
use Rattle.slot_bars.specs.DayLines.{day_lines}
use Rattle.slot_bars.proofs.days.first_day.Given as goal

-- the lines so far, and those of the day that are left
abbrev pub invariant-lines : goal.invariant-lines
invariant-lines g l = record {
  some : 0 < l.end;
  within : l.end ≤ length l.lines;
  so_far : day_lines l.lines ≡ l.end - 1 + day_lines (drop (l.end - 1) l.lines);
}

abbrev pub decreases-lines : goal.decreases-lines
decreases-lines g l = length l.lines - l.end
