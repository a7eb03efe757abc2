use Rattle.std.proofs.Common.{◌≡◌, ◌∙◌, ℕ, List, [], length, take, drop, get_or, map, ap, sym, subst, arith}
use Rattle.std.proofs.Math.Seq.{take-length}
use Rattle.unit_model.specs.Days.{UnitMinute}
use Rattle.message_model.specs.Messages.{DayMessage}
use Rattle.view_model.specs.declared.UnitShown.{UnitShown}
use Rattle.view_model.specs.declared.Viewed.{Viewed}
use Rattle.view_model.specs.Lines.{lines_of, same_unit}
use Rattle.view_text.specs.Exact.{unit_exact}
use Rattle.file_view.specs.declared.unit.DayAt.{DayAt}
use Rattle.file_view.specs.Histories.{minute_shown, minute_told}
use Rattle.file_view.specs.Showing.{before_last}
use Rattle.file_view.specs.UnitFiles.{days_told}
use Rattle.file_view.specs.UnitShowing.{AreStored}
use Rattle.file_view.proofs.Lines.{are_lines, minutes_back, unit_back}
use Rattle.file_view.proofs.UnitFronts.{stored_count}
use Rattle.file_view.proofs.UnitDays.{days_minutes, shown_stored, shown_stored_count, shown_named, unit_step, unit_told_all}
use Rattle.file_view.proofs.unit.unit_lines.Goals as goal

abbrev at_none : DayAt
at_none = record { date = 0; place = 0; words = 0 }

abbrev day_none : DayMessage
day_none = record { date = 0; odometer = 0; insertions = []; words = []; places = []; conditions = []; signature = [] }

pub loop-day-init : goal.loop-day-init
loop-day-init c = λ messages are. c.new-lines.ensures.items

pub add_day-requires : goal.add_day-requires
add_day-requires c =
    let messages = c.requires.0 in
    let stored : AreStored c.args.b.now c.as_slice.result.now (days_told c.requires.0) = subst (λ (l : List DayAt). AreStored c.args.b.now l (days_told c.requires.0)) (sym c.as_slice.ensures.value) c.requires.1.days in
    (get_or (drop c.first_of-from.result (days_told messages)) c.loop-day.day-index day_none, (shown_stored c.args.b.now c.as_slice.result.now (days_told messages) stored c.first_of-from.result c.loop-day.day-index at_none day_none (omega (arith, c.loop-day-test.true))).0)

pub loop-day-preserved : goal.loop-day-preserved
loop-day-preserved c = λ messages are.
    let stored : AreStored c.args.b.now c.as_slice.result.now (days_told messages) = subst (λ (l : List DayAt). AreStored c.args.b.now l (days_told messages)) (sym c.as_slice.ensures.value) are.days in
    let there = shown_stored c.args.b.now c.as_slice.result.now (days_told messages) stored c.first_of-from.result c.loop-day.day-index at_none day_none (omega (arith, c.loop-day-test.true)) in
    let shown : List DayMessage = drop c.first_of-from.result (days_told messages) in
    c.in_ok-add_day.ensures (get_or (drop c.first_of-from.result (days_told messages)) c.loop-day.day-index day_none)
    (days_minutes c.args.told.now.time (take c.loop-day.day-index (drop c.first_of-from.result (days_told messages)))) there.0 (c.loop-day.invariant messages are)
    ∙ ap (λ (l : List UnitMinute). lines_of same_unit (map minute_shown l)) (unit_step c.args.told.now.time shown c.loop-day.day-index day_none there.1)

pub returns-clause-lines : goal.returns-clause-lines
returns-clause-lines c =
    let messages = c.requires.0 in
    let are = c.requires.1 in
    let stored : AreStored c.args.b.now c.as_slice.result.now (days_told c.requires.0) = subst (λ (l : List DayAt). AreStored c.args.b.now l (days_told c.requires.0)) (sym c.as_slice.ensures.value) c.requires.1.days in
    let shown : List DayMessage = drop c.first_of-from.result (days_told c.requires.0) in
    let whole : c.loop-day.day-index ≡ length (drop c.first_of-from.result (days_told c.requires.0)) =
    omega (arith, shown_stored_count c.args.b.now c.as_slice.result.now (days_told c.requires.0) stored c.first_of-from.result, c.loop-day-test.false, c.loop-day.auto.day-index-end) in
    are_lines same_unit unit_exact (map minute_shown (days_minutes c.args.told.now.time (drop c.first_of-from.result (days_told c.requires.0)))) c.loop-day.lines.items
    (c.loop-day.invariant messages are
    ∙ ap (λ (n : ℕ). lines_of same_unit (map minute_shown (days_minutes c.args.told.now.time (take n (drop c.first_of-from.result (days_told c.requires.0)))))) whole
    ∙ ap (λ (l : List DayMessage). lines_of same_unit (map minute_shown (days_minutes c.args.told.now.time l))) (take-length shown))
    (shown_named c.args.b.now c.args.told.now.time c.as_slice.result.now (days_told messages) stored c.first_of-from.result)

pub returns-clause-minutes : goal.returns-clause-minutes
returns-clause-minutes c = λ messages are.
    let stored : AreStored c.args.b.now c.as_slice.result.now (days_told messages) = subst (λ (l : List DayAt). AreStored c.args.b.now l (days_told messages)) (sym c.as_slice.ensures.value) are.days in
    let shown : List DayMessage = drop c.first_of-from.result (days_told messages) in
    let minutes : List UnitMinute = days_minutes c.args.told.now.time (drop c.first_of-from.result (days_told messages)) in
    let whole : c.loop-day.day-index ≡ length (drop c.first_of-from.result (days_told messages)) =
    omega (arith, shown_stored_count c.args.b.now c.as_slice.result.now (days_told messages) stored c.first_of-from.result, c.loop-day-test.false, c.loop-day.auto.day-index-end) in
    let number : c.len.result ≡ length (days_told messages) = omega (arith, c.len.ensures, stored_count c.args.b.now c.args.told.now.days.items (days_told messages) are.days) in
    ap (λ (l : List (Viewed UnitShown)). map minute_told l)
    (minutes_back same_unit unit_exact (map minute_shown minutes) c.loop-day.lines.items
    (c.loop-day.invariant messages are
    ∙ ap (λ (n : ℕ). lines_of same_unit (map minute_shown (days_minutes c.args.told.now.time (take n (drop c.first_of-from.result (days_told messages)))))) whole
    ∙ ap (λ (l : List DayMessage). lines_of same_unit (map minute_shown (days_minutes c.args.told.now.time l))) (take-length shown)))
    ∙ unit_back minutes
    ∙ unit_told_all c.args.last messages c.args.told.now.time c.first_of-from.result are.time (c.first_of-from.ensures.value ∙ ap (before_last c.args.last) number)
