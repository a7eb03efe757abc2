use Rattle.std.proofs.Common.{◌≡◌, ◌≤◌, ◌+◌, length}
use Rattle.file_view.specs.Histories.{minutes_on}
use Rattle.slot_bars.specs.DaysOf.{days_of}
use Rattle.slot_bars.specs.DayLines.{AreDayLines}
use Rattle.day_chart.proofs.chart.days_in.Given as goal

-- the days so far, and those of the lines that are left
abbrev pub invariant-days : goal.invariant-days
invariant-days g l = record {
  lines : AreDayLines l.rest;
  few : l.count + length l.rest ≤ length l.fn.lines;
  so_far : length (days_of (minutes_on l.fn.lines)) ≡ l.count + length (days_of (minutes_on l.rest));
}

abbrev pub decreases-days : goal.decreases-days
decreases-days g l = length l.rest
