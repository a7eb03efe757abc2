use Rattle.std.proofs.Common.{◌≡◌, ◌∙◌, ◌≤◌, ℕ, ◌-◌, List, length, take, drop, get_or, map, ap, sym, subst, arith}
use Rattle.std.proofs.Math.Seq.{take-length}
use Rattle.activity_codec.specs.declared.entries.Entry.{Entry}
use Rattle.card_model.specs.Days.{Day}
use Rattle.card_model.specs.Image.{StringShape}
use Rattle.card_model.specs.Walk.{days_of}
use Rattle.card_image.specs.CardFile.{string_alone}
use Rattle.card_retention.specs.Entries.{entries_up_to}
use Rattle.card_retention.specs.Retains.{Rise}
use Rattle.view_model.specs.Lines.{lines_of, same_card}
use Rattle.view_text.specs.Entries.{entry_shown}
use Rattle.view_text.specs.Exact.{card_exact}
use Rattle.tach_media.specs.Medium.{bytes_at}
use Rattle.card_days.specs.declared.head.DayHead.{DayHead}
use Rattle.view_model.specs.declared.CardShown.{CardShown}
use Rattle.view_model.specs.declared.Viewed.{Viewed}
use Rattle.file_view.specs.CardFiles.{mark_of}
use Rattle.file_view.specs.Histories.{entry_told, minutes_on}
use Rattle.file_view.specs.Reading.{days_part, vehicles_part}
use Rattle.file_view.specs.Showing.{before_last}
use Rattle.file_view.proofs.Lines.{are_lines, minutes_back, entries_back}
use Rattle.file_view.proofs.Entries.{entries_low, shown_low}
use Rattle.file_view.proofs.Rising.{shown_rise}
use Rattle.file_view.proofs.Telling.{day_none, head_none, holds_own, inside_own, day_step, told_all, shown_day, shown_count}
use Rattle.file_view.proofs.Walks.{heads_count}
use Rattle.file_view.proofs.card.card_lines.Goals as goal

pub add_day-requires-clause-place : goal.add_day-requires-clause-place
add_day-requires-clause-place c =
    let r = c.in-Some.string.shape in
    let x = c.part-file.result.now in
    let long : 4 ≤ length c.part-file.result.now = omega (arith, c.part-file.ensures.len, c.days_len.ensures.value) in
    let there = shown_day c.in-Some.string.shape c.in-Some.ensures.shape c.part-file.result.now (inside_own r x c.in-Some.ensures.some.0 long) (days_of c.in-Some.string.shape c.part-file.result.now)
    (holds_own r (length c.part-file.result.now - 4) x c.in-Some.ensures.some.0 c.in-Some.ensures.some.1.holds) c.as_slice.result.now (c.as_slice.ensures.value ∙ c.in_ok-all.ensures) c.first_of-from.result c.loop-head.head-index head_none day_none (omega (arith, c.loop-head-test.true)) in
    let low = there.0.here.pointer.below in
    omega (arith, low)

pub loop-head-preserved : goal.loop-head-preserved
loop-head-preserved c =
    let r = c.in-Some.string.shape in
    let x = c.part-file.result.now in
    let long : 4 ≤ length c.part-file.result.now = omega (arith, c.part-file.ensures.len, c.days_len.ensures.value) in
    let there = shown_day c.in-Some.string.shape c.in-Some.ensures.shape c.part-file.result.now (inside_own r x c.in-Some.ensures.some.0 long) (days_of c.in-Some.string.shape c.part-file.result.now)
    (holds_own r (length c.part-file.result.now - 4) x c.in-Some.ensures.some.0 c.in-Some.ensures.some.1.holds) c.as_slice.result.now (c.as_slice.ensures.value ∙ c.in_ok-all.ensures) c.first_of-from.result c.loop-head.head-index head_none day_none (omega (arith, c.loop-head-test.true)) in
    let shown = drop c.first_of-from.result (days_of c.in-Some.string.shape c.part-file.result.now) in
    c.in_ok-add_day.ensures (get_or (drop c.first_of-from.result (days_of c.in-Some.string.shape c.part-file.result.now)) c.loop-head.head-index day_none)
    (entries_up_to c.end_mark-mark.result (take c.loop-head.head-index (drop c.first_of-from.result (days_of c.in-Some.string.shape c.part-file.result.now)))) there.0 c.loop-head.invariant
    ∙ ap (λ (l : List Entry). lines_of same_card (map entry_shown l)) (day_step c.end_mark-mark.result shown c.loop-head.head-index day_none there.1)

pub returns-clause-lines : goal.returns-clause-lines
returns-clause-lines c =
    let es = entries_up_to c.end_mark-mark.result (take c.loop-head.head-index (drop c.first_of-from.result (days_of c.in-Some.string.shape c.part-file.result.now))) in
    are_lines same_card card_exact (map entry_shown es) c.loop-head.lines.items c.loop-head.invariant
    (shown_low c.end_mark-mark.result es (omega (arith, c.end_mark-mark.ensures.low)) (entries_low c.end_mark-mark.result (take c.loop-head.head-index (drop c.first_of-from.result (days_of c.in-Some.string.shape c.part-file.result.now)))))

pub returns-clause-entries : goal.returns-clause-entries
returns-clause-entries c =
    let r = c.in-Some.string.shape in
    let x = c.part-file.result.now in
    let shown : List Day = drop c.first_of-from.result (days_of c.in-Some.string.shape c.part-file.result.now) in
    let es = entries_up_to c.end_mark-mark.result (take c.loop-head.head-index (drop c.first_of-from.result (days_of c.in-Some.string.shape c.part-file.result.now))) in
    let heads_are = c.as_slice.ensures.value ∙ c.in_ok-all.ensures in
    let count : length (take (length c.as_slice.result.now - c.first_of-from.result) (drop c.first_of-from.result c.as_slice.result.now)) ≡ length (drop c.first_of-from.result (days_of c.in-Some.string.shape c.part-file.result.now)) =
    shown_count r x (days_of c.in-Some.string.shape c.part-file.result.now) c.as_slice.result.now heads_are c.first_of-from.result in
    let whole : c.loop-head.head-index ≡ length (drop c.first_of-from.result (days_of c.in-Some.string.shape c.part-file.result.now)) = omega (arith, count, c.loop-head-test.false, c.loop-head.auto.head-index-end) in
    let number : c.len.result ≡ length (days_of c.in-Some.string.shape c.part-file.result.now) = omega (arith, c.len.ensures, c.in_ok-all.all.ok, ap (λ (l : List DayHead). length l) c.in_ok-all.ensures, heads_count r x 0 (days_of c.in-Some.string.shape c.part-file.result.now)) in
    let size : length c.part-file.result.now - 4 ≡ c.args.parts.app.activity = omega (arith, c.part-file.ensures.len, c.days_len.ensures.value) in
    let r_is : c.in-Some.string.shape ≡ string_alone c.args.parts.app = c.in-Some.ensures.some.0 ∙ ap (λ (n : ℕ). let s : StringShape = record { base = 0; size = n } in s) size in
    let x_is : c.part-file.result.now ≡ days_part c.args.b.now c.args.parts = c.part-file.ensures.bytes ∙ ap (λ (n : ℕ). bytes_at c.args.b.now c.args.parts.days n) c.days_len.ensures.value in
    let v_is : c.part.result.now ≡ vehicles_part c.args.b.now c.args.parts = c.part.ensures.bytes ∙ ap (λ (n : ℕ). bytes_at c.args.b.now c.args.parts.vehicles n) c.vehicles_len.ensures.value in
    ap (λ (l : List (Viewed CardShown)). map entry_told l) (minutes_back same_card card_exact (map entry_shown es) c.loop-head.lines.items c.loop-head.invariant)
    ∙ entries_back es
    ∙ ap (λ (n : ℕ). entries_up_to c.end_mark-mark.result (take n (drop c.first_of-from.result (days_of c.in-Some.string.shape c.part-file.result.now)))) whole
    ∙ ap (λ (l : List Day). entries_up_to c.end_mark-mark.result l) (take-length shown)
    ∙ told_all c.args.last c.args.parts.app (days_part c.args.b.now c.args.parts) (vehicles_part c.args.b.now c.args.parts) c.end_mark-mark.result c.first_of-from.result r x
    (c.end_mark-mark.ensures.mark ∙ ap (mark_of c.args.parts.app) v_is) r_is x_is (c.first_of-from.ensures.value ∙ ap (before_last c.args.last) number)

pub returns-clause-rise : goal.returns-clause-rise
returns-clause-rise c =
    let days : List Day = days_of c.in-Some.string.shape c.part-file.result.now in
    let shown : List Day = drop c.first_of-from.result (days_of c.in-Some.string.shape c.part-file.result.now) in
    let es = entries_up_to c.end_mark-mark.result (take c.loop-head.head-index (drop c.first_of-from.result (days_of c.in-Some.string.shape c.part-file.result.now))) in
    let entries : map entry_told (minutes_on c.loop-head.lines.items) ≡ entries_up_to c.end_mark-mark.result (take c.loop-head.head-index (drop c.first_of-from.result (days_of c.in-Some.string.shape c.part-file.result.now))) =
    ap (λ (l : List (Viewed CardShown)). map entry_told l) (minutes_back same_card card_exact (map entry_shown es) c.loop-head.lines.items c.loop-head.invariant) ∙ entries_back es in
    let held = holds_own c.in-Some.string.shape (length c.part-file.result.now - 4) c.part-file.result.now c.in-Some.ensures.some.0 c.in-Some.ensures.some.1.holds in
    subst Rise (sym entries) (shown_rise c.end_mark-mark.result c.loop-head.head-index c.first_of-from.result (days_of c.in-Some.string.shape c.part-file.result.now) held.ordered)

pub add_day-requires-clause-day : goal.add_day-requires-clause-day
add_day-requires-clause-day c =
    let r = c.in-Some.string.shape in
    let x = c.part-file.result.now in
    let long : 4 ≤ length c.part-file.result.now = omega (arith, c.part-file.ensures.len, c.days_len.ensures.value) in
    let there = shown_day c.in-Some.string.shape c.in-Some.ensures.shape c.part-file.result.now (inside_own r x c.in-Some.ensures.some.0 long) (days_of c.in-Some.string.shape c.part-file.result.now)
    (holds_own r (length c.part-file.result.now - 4) x c.in-Some.ensures.some.0 c.in-Some.ensures.some.1.holds) c.as_slice.result.now (c.as_slice.ensures.value ∙ c.in_ok-all.ensures) c.first_of-from.result c.loop-head.head-index head_none day_none (omega (arith, c.loop-head-test.true)) in
    (get_or (drop c.first_of-from.result (days_of c.in-Some.string.shape c.part-file.result.now)) c.loop-head.head-index day_none, there.0)
