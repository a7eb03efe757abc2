use Rattle.std.proofs.Common.{◌∙◌, ℕ, ◌+◌, List, ◌++◌, length, ap, sym, subst, arith, length-drop}
use Rattle.view_model.specs.declared.CardShown.{CardShown}
use Rattle.view_model.specs.declared.Viewed.{Viewed}
use Rattle.view_model.specs.declared.Line.{Line}
use Rattle.view_model.specs.Lines.{same_card}
use Rattle.slot_bars.specs.DayLines.{AreDayLines, IsOneDay}
use Rattle.slot_bars.proofs.DayRuns.{are_dated}
use Rattle.slot_bars.proofs.EachDay.{begun, one_more, all_days, split_days, none_left}
use Rattle.file_view.specs.Histories.{minutes_on}
use Rattle.day_totals.specs.Figures.{AreSameDistances}
use Rattle.day_totals.proofs.SameDays.{card_same}
use Rattle.day_totals.specs.Text.{card_day_text, IsCardTotals}
use Rattle.day_totals.proofs.days.card_days_text.Goals as goal

pub days-init : goal.days-init
days-init c =
    let piece : ℕ → List ℕ → List (Viewed CardShown) → List ℕ = λ place date day. card_day_text c.args.distances.now date day in
    record {
      lines = are_dated same_card c.args.lines.now c.requires;
      far = (0, begun piece c.args.lines.now c.new-text.result.items c.new-text.ensures.items);
    }

pub write_card_day-requires-clause-day : goal.write_card_day-requires-clause-day
write_card_day-requires-clause-day c = subst (λ (l : List (Line CardShown)). IsOneDay l) (sym c.split_at.ensures.front) c.first_day.ensures.one

pub write_card_day-requires-clause-order : goal.write_card_day-requires-clause-order
write_card_day-requires-clause-order c = rw c.as_slice.ensures.value c.in_ok-told.ensures.order

pub days-smaller : goal.days-smaller
days-smaller c =
    omega (arith, c.first_day.ensures.some, c.first_day.ensures.within, ap (λ (l : List (Line CardShown)). length l) c.split_at.ensures.back, length-drop c.first_day.result c.days.rest.now)

pub days-preserved : goal.days-preserved
days-preserved c =
    let piece : ℕ → List ℕ → List (Viewed CardShown) → List ℕ = λ place date day. card_day_text c.args.distances.now date day in
    let far = c.days.invariant.far in
    let wrote = c.in_ok-write_card_day.ensures in
    let same : AreSameDistances c.as_slice.result.now c.args.distances.now = rw c.as_slice.ensures.value c.in_ok-told.ensures.same in
    let split = split_days c.days.rest.now c.split_at.result.0.now c.split_at.result.1.now c.first_day.result c.split_at.ensures.front c.split_at.ensures.back c.first_day.ensures.days in
    record {
      lines = subst (λ (l : List (Line CardShown)). AreDayLines l) (sym c.split_at.ensures.back) c.first_day.ensures.more;
      far = (far.0 + 1, one_more piece c.args.lines.now far.0 c.days.rest.now c.split_at.result.0.now c.split_at.result.1.now c.days.text.items c.write_card_day.new.text.items wrote.0 split far.1 wrote.1 (wrote.2 ∙ ap (λ (l : List ℕ). c.days.text.items ++ l) (card_same _ c.args.distances.now same wrote.0 (minutes_on c.split_at.result.0.now))));
    }

pub returns : goal.returns
unfolding IsCardTotals
returns c =
    let piece : ℕ → List ℕ → List (Viewed CardShown) → List ℕ = λ place date day. card_day_text c.args.distances.now date day in
    let far = c.days.invariant.far in
    all_days piece c.args.lines.now far.0 c.days.rest.now c.days.text.items (none_left c.days.rest.now (omega (arith, c.days-test.false))) far.1
