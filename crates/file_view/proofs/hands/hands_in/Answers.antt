use Rattle.std.proofs.Common.{◌≡◌, ◌∙◌, ◌≤◌, ℕ, ◌-◌, ◌<◌, List, ◌++◌, length, take, get_or, ap, sym, subst, arith}
use Rattle.std.proofs.Math.Seq.{take-length}
use Rattle.std.proofs.lemmas.List.{take_more}
use Rattle.card_model.specs.Days.{Day}
use Rattle.card_model.specs.Image.{StringShape, IsStringShape, HoldsDays}
use Rattle.card_model.specs.Walk.{days_of}
use Rattle.card_image.specs.CardFile.{string_alone}
use Rattle.tach_media.specs.Medium.{bytes_at}
use Rattle.card_days.specs.declared.head.DayHead.{DayHead}
use Rattle.card_days.specs.Heads.{heads_of}
use Rattle.activity_codec.specs.declared.entries.Manual.{Manual}
use Rattle.hand_model.specs.ByHand.{words_by_hand, by_hand_up_to}
use Rattle.hand_model.proofs.Lists.{up_to_append}
use Rattle.file_view.specs.CardFiles.{mark_of}
use Rattle.file_view.specs.Reading.{days_part, vehicles_part}
use Rattle.file_view.specs.Walking.{IsDayAt}
use Rattle.file_view.proofs.Walks.{head_there, heads_count}
use Rattle.file_view.proofs.Telling.{day_none, head_none, holds_own, inside_own}
use Rattle.std.specs.List.{AllByRecursion}
use Rattle.view_model.specs.Lines.{day_of_minute}
use Rattle.tacho_types.specs.declared.calendar.TheConstants.{DAYS}
use Rattle.file_view.proofs.HandDays.{hands_early, hands_low}
use Rattle.file_view.proofs.hands.hands_in.Goals as goal

-- a head that was read is that of a day that stands there
read_day : (r : StringShape) → IsStringShape r → (x : List ℕ) → r ≡ record { base = 0; size = length x - 4 } → 4 ≤ length x → HoldsDays r x (days_of (record { base = 0; size = length x - 4 }) x) → (A : List DayHead) → A ≡ heads_of r x (days_of r x) →
    (k : ℕ) → k < length A → IsDayAt r x (get_or A k head_none) (get_or (days_of r x) k day_none) × (k < length (days_of r x))
read_day r shape x is long holds A heads k low =
    let count : length A ≡ length (days_of r x) = ap (λ (l : List DayHead). length l) heads ∙ heads_count r x 0 (days_of r x) in
    let below : k < length (days_of r x) = omega (arith, low, count) in
    let there = head_there r shape x (inside_own r x is long) (days_of r x) (holds_own r (length x - 4) x is holds) k below head_none day_none in
    (subst (λ (l : List DayHead). IsDayAt r x (get_or l k head_none) (get_or (days_of r x) k day_none)) (sym heads) there, below)

pub add_words-requires-clause-place : goal.add_words-requires-clause-place
add_words-requires-clause-place c =
    let long : 4 ≤ length c.part-file.result.now = omega (arith, c.part-file.ensures.len, c.days_len.ensures.value) in
    let there = read_day c.in-Some.string.shape c.in-Some.ensures.shape c.part-file.result.now c.in-Some.ensures.some.0 long c.in-Some.ensures.some.1.holds c.as_slice-head-items.result.now (c.as_slice-head-items.ensures.value ∙ c.in_ok-all.ensures) c.loop-head.head-index (omega (arith, c.loop-head-test.true)) in
    let low = there.0.here.pointer.below in
    omega (arith, low)

pub loop-head-preserved : goal.loop-head-preserved
loop-head-preserved c =
    let r = c.in-Some.string.shape in
    let x = c.part-file.result.now in
    let mark = c.end_mark-mark.result in
    let long : 4 ≤ length c.part-file.result.now = omega (arith, c.part-file.ensures.len, c.days_len.ensures.value) in
    let there = read_day c.in-Some.string.shape c.in-Some.ensures.shape c.part-file.result.now c.in-Some.ensures.some.0 long c.in-Some.ensures.some.1.holds c.as_slice-head-items.result.now (c.as_slice-head-items.ensures.value ∙ c.in_ok-all.ensures) c.loop-head.head-index (omega (arith, c.loop-head-test.true)) in
    let d : Day = get_or (days_of c.in-Some.string.shape c.part-file.result.now) c.loop-head.head-index day_none in
    c.in_ok-add_words.ensures d there.0
    ∙ ap (λ (l : List Manual). l ++ words_by_hand c.end_mark-mark.result d.date d.words) c.loop-head.invariant
    ∙ sym (ap (by_hand_up_to c.end_mark-mark.result) (take_more (days_of r x) c.loop-head.head-index day_none there.1) ∙ up_to_append mark (take c.loop-head.head-index (days_of r x)) d)

pub returns-clause-told : goal.returns-clause-told
returns-clause-told c =
    let r = c.in-Some.string.shape in
    let x = c.part-file.result.now in
    let mark = c.end_mark-mark.result in
    let heads : c.as_slice-head-items.result.now ≡ heads_of r x (days_of r x) = c.as_slice-head-items.ensures.value ∙ c.in_ok-all.ensures in
    let count : length c.as_slice-head-items.result.now ≡ length (days_of c.in-Some.string.shape c.part-file.result.now) = ap (λ (l : List DayHead). length l) heads ∙ heads_count r x 0 (days_of r x) in
    let whole : c.loop-head.head-index ≡ length (days_of c.in-Some.string.shape c.part-file.result.now) = omega (arith, count, c.loop-head-test.false, c.loop-head.auto.head-index-end) in
    let size : length c.part-file.result.now - 4 ≡ c.args.parts.app.activity = omega (arith, c.part-file.ensures.len, c.days_len.ensures.value) in
    let r_is : c.in-Some.string.shape ≡ string_alone c.args.parts.app = c.in-Some.ensures.some.0 ∙ ap (λ (n : ℕ). let s : StringShape = record { base = 0; size = n } in s) size in
    let x_is : c.part-file.result.now ≡ days_part c.args.b.now c.args.parts = c.part-file.ensures.bytes ∙ ap (λ (n : ℕ). bytes_at c.args.b.now c.args.parts.days n) c.days_len.ensures.value in
    let v_is : c.part.result.now ≡ vehicles_part c.args.b.now c.args.parts = c.part.ensures.bytes ∙ ap (λ (n : ℕ). bytes_at c.args.b.now c.args.parts.vehicles n) c.vehicles_len.ensures.value in
    let mark_is : c.end_mark-mark.result ≡ mark_of c.args.parts.app (vehicles_part c.args.b.now c.args.parts) = c.end_mark-mark.ensures.mark ∙ ap (mark_of c.args.parts.app) v_is in
    c.loop-head.invariant
    ∙ ap (λ (l : List Day). by_hand_up_to mark l) (ap (λ (n : ℕ). take n (days_of r x)) whole ∙ take-length (days_of r x))
    ∙ ap (λ (m : ℕ). by_hand_up_to m (days_of r x)) mark_is
    ∙ ap (λ (s : StringShape). by_hand_up_to (mark_of c.args.parts.app (vehicles_part c.args.b.now c.args.parts)) (days_of s x)) r_is
    ∙ ap (λ (y : List ℕ). by_hand_up_to (mark_of c.args.parts.app (vehicles_part c.args.b.now c.args.parts)) (days_of (string_alone c.args.parts.app) y)) x_is

pub returns-clause-low : goal.returns-clause-low
returns-clause-low c =
    let days : List Day = take c.loop-head.head-index (days_of c.in-Some.string.shape c.part-file.result.now) in
    subst (λ (l : List Manual). AllByRecursion (λ (e : Manual). day_of_minute e.minute < DAYS) l) (sym c.loop-head.invariant)
    (hands_low c.end_mark-mark.result (by_hand_up_to c.end_mark-mark.result days) (omega (arith, c.end_mark-mark.ensures.low)) (hands_early c.end_mark-mark.result days))
