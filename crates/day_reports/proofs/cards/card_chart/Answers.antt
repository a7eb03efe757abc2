use Rattle.file_view.specs.Histories.{minutes_on}
use Rattle.day_reports.proofs.Shown.{card_shown}
use Rattle.day_reports.proofs.cards.card_chart.Goals as goal

pub returns-clause-text : goal.returns-clause-text
returns-clause-text c =
    let shown = card_shown (minutes_on c.lines-lines.result.now) c.in_ok-history.history c.lines-lines.ensures.entries in
    record {
      entries = c.in_ok-history.history;
      distances = c.in_ok-distances.distances.items;
      marks = c.in_ok-marks.marks.items;
      hands = c.in_ok-entries.entries.items;
      text = c.in_ok-totals.totals.items;
      shows = c.in_ok-history.ensures.entries;
      tells = c.in_ok-distances.ensures.distances;
      marked = c.in_ok-marks.ensures.marks;
      handed = c.in_ok-entries.ensures.told;
      totals = rw (c.as_slice-2.ensures.value, shown) at c.in_ok-totals.ensures;
      chart = rw (c.as_slice-3.ensures.value, c.in_ok-add_hands.ensures, c.as_slice.ensures.value, c.as_slice-4.ensures.value, shown) at c.in_ok-text.ensures;
    }
