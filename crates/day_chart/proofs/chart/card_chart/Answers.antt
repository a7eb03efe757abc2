use Rattle.std.proofs.Common.{◌≡◌, ◌∙◌, ℕ, ◌+◌, ◌*◌, List, [], ◌++◌, length, ap, sym, subst, arith}
use Rattle.std.specs.Prelude.{codes}
use Rattle.view_model.specs.declared.CardShown.{CardShown}
use Rattle.view_model.specs.declared.Line.{Line}
use Rattle.view_model.specs.Lines.{same_card}
use Rattle.file_view.specs.Histories.{minutes_on}
use Rattle.slot_bars.specs.DaysOf.{days_of}
use Rattle.slot_bars.specs.DayLines.{IsOneDay}
use Rattle.slot_bars.proofs.DayRuns.{are_dated}
use Rattle.slot_bars.proofs.EachDay.{all_days, split_days, none_left}
use Rattle.day_chart.specs.Marks.{AreSameMarks}
use Rattle.day_chart.proofs.Marked.{card_same}
use Rattle.day_chart.specs.Frame.{frame_head, frame_text}
use Rattle.day_chart.specs.Chart.{card_band}
use Rattle.day_chart.proofs.Drawing.{behind_long, drawn_more, drawn_none, lines_behind}
use Rattle.day_chart.proofs.chart.card_chart.Goals as goal

pub days_in-count-requires : goal.days_in-count-requires
days_in-count-requires c = are_dated same_card c.args.lines.now c.requires

pub days-init : goal.days-init
days-init c = record {
  lines = are_dated same_card c.args.lines.now c.requires;
  few = omega arith;
  drawn = drawn_none (card_band c.args.marks.now) (frame_head (80 + 62 * length (days_of (minutes_on c.args.lines.now))) c.args.totals.now) c.args.lines.now c.in_ok-text.text.items
      (c.in_ok-text.ensures ∙ ap (λ (n : ℕ). frame_head (80 + 62 * n) c.args.totals.now) c.days_in-count.ensures);
}

pub write_card_band-requires-clause-day : goal.write_card_band-requires-clause-day
write_card_band-requires-clause-day c = subst (λ (l : List (Line CardShown)). IsOneDay l) (sym c.split_at.ensures.front) c.first_day.ensures.one

pub write_card_band-requires-clause-order : goal.write_card_band-requires-clause-order
write_card_band-requires-clause-order c = rw c.as_slice.ensures.value c.in_ok-told.ensures.order

pub days-smaller : goal.days-smaller
days-smaller c =
    omega (arith, c.first_day.ensures.some, c.first_day.ensures.within, behind_long c.days.rest.now c.split_at.result.1.now c.first_day.result c.split_at.ensures.back)

pub days-preserved : goal.days-preserved
days-preserved c =
    let inv = c.days.invariant in
    let wrote = c.in_ok-write_card_band.ensures in
    let same : AreSameMarks c.as_slice.result.now c.args.marks.now = rw c.as_slice.ensures.value c.in_ok-told.ensures.same in
    let split = split_days c.days.rest.now c.split_at.result.0.now c.split_at.result.1.now c.first_day.result c.split_at.ensures.front c.split_at.ensures.back c.first_day.ensures.days in
    record {
      lines = lines_behind c.days.rest.now c.split_at.result.1.now c.first_day.result c.split_at.ensures.back c.first_day.ensures.more;
      few = omega (arith, inv.few, c.first_day.ensures.some, c.first_day.ensures.within, behind_long c.days.rest.now c.split_at.result.1.now c.first_day.result c.split_at.ensures.back);
      drawn = drawn_more (card_band c.args.marks.now) (frame_head (80 + 62 * length (days_of (minutes_on c.args.lines.now))) c.args.totals.now) c.args.lines.now c.days.place c.days.rest.now c.split_at.result.0.now c.split_at.result.1.now
          c.days.text.items c.write_card_band.new.text.items wrote.0 split inv.drawn wrote.1 (wrote.2 ∙ ap (λ (l : List ℕ). c.days.text.items ++ l) (card_same _ c.args.marks.now same c.days.place wrote.0 (minutes_on c.split_at.result.0.now)));
    }

pub returns : goal.returns
unfolding frame_text
returns c =
    let drawn = c.days.invariant.drawn in
    let none : c.days.rest.now ≡ [] = none_left c.days.rest.now (omega (arith, c.days-test.false)) in
    record {
      bands = drawn.0;
      each = all_days (card_band c.args.marks.now) c.args.lines.now c.days.place c.days.rest.now drawn.0 none drawn.2;
      framed = c.in_ok-extend_from_slice.ensures.items ∙ ap (λ (l : List ℕ). l ++ codes "</svg>\n") drawn.1;
    }
