use Rattle.file_view.specs.Histories.{minutes_on}
use Rattle.day_reports.proofs.Shown.{unit_shown}
use Rattle.day_reports.proofs.units.unit_totals.Goals as goal

pub returns-clause-text : goal.returns-clause-text
returns-clause-text c =
    let shown = unit_shown (minutes_on c.lines.result.now) c.in_ok-history.history c.lines.ensures.minutes in
    record {
      minutes = c.in_ok-history.history;
      gaps = c.in_ok-marks.marks.gaps.items;
      distances = c.in_ok-marks.marks.distances.items;
      shows = c.in_ok-history.ensures.minutes;
      tells = c.in_ok-marks.ensures.marks;
      totals = rw (c.as_slice.ensures.value, c.as_slice-2.ensures.value, shown) at c.in_ok-text.ensures;
    }
