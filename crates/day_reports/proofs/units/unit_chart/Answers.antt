use Rattle.file_view.specs.Histories.{minutes_on}
use Rattle.day_reports.proofs.Shown.{unit_shown}
use Rattle.day_reports.proofs.units.unit_chart.Goals as goal

pub returns-clause-text : goal.returns-clause-text
returns-clause-text c =
    let shown = unit_shown (minutes_on c.lines-lines.result.now) c.in_ok-history.history c.lines-lines.ensures.minutes in
    record {
      minutes = c.in_ok-history.history;
      gaps = c.in_ok-marks.marks.gaps.items;
      distances = c.in_ok-marks.marks.distances.items;
      marks = c.in_ok-entries.entries.items;
      text = c.in_ok-totals.totals.items;
      shows = c.in_ok-history.ensures.minutes;
      tells = c.in_ok-marks.ensures.marks;
      entries = c.in_ok-entries.ensures.marks;
      totals = rw (c.as_slice-gaps.ensures.value, c.as_slice.ensures.value, shown) at c.in_ok-totals.ensures;
      chart = rw (c.as_slice-gaps.ensures.value, c.as_slice-2.ensures.value, c.as_slice-3.ensures.value, shown) at c.in_ok-text.ensures;
    }
