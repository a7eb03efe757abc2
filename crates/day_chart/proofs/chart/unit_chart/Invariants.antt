use Rattle.std.proofs.Common.{◌≤◌, ◌+◌, ◌*◌, length}
use Rattle.file_view.specs.Histories.{minutes_on}
use Rattle.slot_bars.specs.DaysOf.{days_of}
use Rattle.slot_bars.specs.DayLines.{AreDayLines}
use Rattle.day_chart.specs.Chart.{unit_band}
use Rattle.day_chart.specs.Frame.{frame_head}
use Rattle.day_chart.proofs.Drawing.{IsDrawn}
use Rattle.day_chart.proofs.chart.unit_chart.Given as goal

-- what is written is the front of the picture, with the bands of the days so far
abbrev pub invariant-days : goal.invariant-days
invariant-days l = record {
  lines : AreDayLines l.rest;
  few : l.place + length l.rest ≤ length l.fn.lines;
  drawn : IsDrawn (unit_band l.fn.gaps l.fn.marks) (frame_head (80 + 92 * length (days_of (minutes_on l.fn.lines))) l.fn.totals) l.fn.lines l.place l.rest l.text.items;
}

abbrev pub decreases-days : goal.decreases-days
decreases-days l = length l.rest
