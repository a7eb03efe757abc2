use Rattle.file_view.specs.Histories.{minutes_on}
use Rattle.day_reports.proofs.Shown.{card_shown}
use Rattle.day_reports.proofs.cards.card_totals.Goals as goal

pub returns-clause-text : goal.returns-clause-text
returns-clause-text c =
    let shown = card_shown (minutes_on c.lines.result.now) c.in_ok-history.history c.lines.ensures.entries in
    record {
      entries = c.in_ok-history.history;
      distances = c.in_ok-distances.distances.items;
      shows = c.in_ok-history.ensures.entries;
      tells = c.in_ok-distances.ensures.distances;
      totals = rw (c.as_slice.ensures.value, shown) at c.in_ok-text.ensures;
    }
