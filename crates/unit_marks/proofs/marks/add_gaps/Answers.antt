use Rattle.std.proofs.Common.{◌≡◌, ◌∙◌, ℕ, ◌+◌, ◌*◌, ◌<◌, List, [], ◌++◌, length, get_or, take, ap, sym, arith, append_assoc}
use Rattle.std.proofs.Math.Seq.{take-length}
use Rattle.std.proofs.lemmas.List.{take_more}
use Rattle.card_layout.specs.Images.{bytes_at, number_at}
use Rattle.view_model.specs.declared.marks.Gap.{Gap}
use Rattle.unit_marks.specs.Marks.{gap_of, gaps_of}
use Rattle.unit_marks.proofs.Laid.{events_laid, event_inside}
use Rattle.unit_marks.proofs.Telling.{gaps_of_more}
use Rattle.unit_marks.proofs.marks.add_gaps.Goals as goal

pub byte_at-faults-requires : goal.byte_at-faults-requires
byte_at-faults-requires c = omega (arith, (events_laid c.requires.0 c.args.message.now c.requires.1).inside)

pub byte_at-count-requires : goal.byte_at-count-requires
byte_at-count-requires c =
    let laid = events_laid c.requires.0 c.args.message.now c.requires.1 in
    omega (arith, laid.inside, laid.faults, c.byte_at-faults.ensures)

pub part-event-requires : goal.part-event-requires
part-event-requires c =
    let laid = events_laid c.requires.0 c.args.message.now c.requires.1 in
    let place : 3 + 82 * c.byte_at-faults.result ≡ 3 + 82 * length c.requires.0.faults = ap (λ (n : ℕ). 3 + 82 * n) (c.byte_at-faults.ensures ∙ laid.faults) in
    let count : c.byte_at-count.result ≡ length c.requires.0.events = c.byte_at-count.ensures ∙ ap (λ (p : ℕ). number_at c.args.message.now p 1) place ∙ laid.count in
    let low : c.loop-i.i < length c.requires.0.events = omega (arith, count, c.loop-i-test.true) in
    let inside = event_inside c.requires.0 c.args.message.now c.loop-i.i laid low in
    omega (arith, place, inside)

pub add_gap-requires : goal.add_gap-requires
add_gap-requires c = omega (arith, c.part-event.ensures.len)

pub loop-i-preserved : goal.loop-i-preserved
loop-i-preserved c = λ m begins.
    let laid = events_laid m c.args.message.now begins in
    let i = c.loop-i.i in
    let place : 3 + 82 * c.byte_at-faults.result ≡ 3 + 82 * length m.faults = ap (λ (n : ℕ). 3 + 82 * n) (c.byte_at-faults.ensures ∙ laid.faults) in
    let count : c.byte_at-count.result ≡ length m.events = c.byte_at-count.ensures ∙ ap (λ (p : ℕ). number_at c.args.message.now p 1) place ∙ laid.count in
    let low : c.loop-i.i < length m.events = omega (arith, count, c.loop-i-test.true) in
    let from : 3 + 82 * c.byte_at-faults.result + 1 + 83 * c.loop-i.i ≡ 4 + 82 * length m.faults + 83 * c.loop-i.i = omega (arith, place) in
    let event : c.part-event.result.now ≡ get_or m.events c.loop-i.i [] = c.part-event.ensures.bytes ∙ ap (λ (p : ℕ). bytes_at c.args.message.now p 83) from ∙ laid.event i low in
    c.in_ok-add_gap.ensures
    ∙ ap (λ (l : List ℕ). c.loop-i.gaps.items ++ gap_of l) event
    ∙ ap (λ (l : List Gap). l ++ gap_of (get_or m.events c.loop-i.i [])) (c.loop-i.invariant m begins)
    ∙ append_assoc c.args.gaps.now.items (gaps_of (take i m.events)) (gap_of (get_or m.events i []))
    ∙ ap (λ (l : List Gap). c.args.gaps.now.items ++ l)
    (sym (ap (λ (l : List (List ℕ)). gaps_of l) (take_more m.events i [] low) ∙ gaps_of_more (take i m.events) (get_or m.events i [])))

pub returns : goal.returns
returns c = λ m begins.
    let laid = events_laid m c.args.message.now begins in
    let place : 3 + 82 * c.byte_at-faults.result ≡ 3 + 82 * length m.faults = ap (λ (n : ℕ). 3 + 82 * n) (c.byte_at-faults.ensures ∙ laid.faults) in
    let count : c.byte_at-count.result ≡ length m.events = c.byte_at-count.ensures ∙ ap (λ (p : ℕ). number_at c.args.message.now p 1) place ∙ laid.count in
    let all : c.loop-i.i ≡ length m.events = omega (arith, count, c.loop-i-test.false, c.loop-i.auto.i-end) in
    c.loop-i.invariant m begins
    ∙ ap (λ (n : ℕ). c.args.gaps.now.items ++ gaps_of (take n m.events)) all
    ∙ ap (λ (l : List (List ℕ)). c.args.gaps.now.items ++ gaps_of l) (take-length m.events)
