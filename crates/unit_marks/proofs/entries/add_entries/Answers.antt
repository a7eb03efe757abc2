use Rattle.std.proofs.Common.{◌≡◌, ◌∙◌, ℕ, ◌<◌, List, [], ◌∷◌, ◌++◌, length, get_or, take, map, ap, sym, arith, append_assoc}
use Rattle.std.proofs.Math.Seq.{take-length}
use Rattle.std.proofs.lemmas.List.{take_more}
use Rattle.view_model.specs.declared.marks.Mark.{Mark}
use Rattle.unit_marks.specs.Entries.{mark_of}
use Rattle.unit_marks.proofs.Fronts.{at_front, entry_inside, times_few}
use Rattle.unit_marks.proofs.TellingMarks.{mapped_more}
use Rattle.unit_marks.proofs.entries.add_entries.Goals as goal

pub byte_at-count-requires : goal.byte_at-count-requires
byte_at-count-requires c =
    let given = c.requires.entries in
    omega (arith, (at_front 1 c.args.size given.0 c.args.bytes.now given.1).end)

pub overflow_mul-from : goal.overflow_mul-from
overflow_mul-from c =
    let given = c.requires.entries in
    let at = at_front 1 c.args.size given.0 c.args.bytes.now given.1 in
    omega (arith, times_few c.args.size c.loop-i.i c.requires.few (omega (arith, c.loop-i-test.true, c.byte_at-count.ensures, at.count, given.1.are.few)))

pub overflow_add-from : goal.overflow_add-from
overflow_add-from c =
    let given = c.requires.entries in
    let at = at_front 1 c.args.size given.0 c.args.bytes.now given.1 in
    omega (arith, times_few c.args.size c.loop-i.i c.requires.few (omega (arith, c.loop-i-test.true, c.byte_at-count.ensures, at.count, given.1.are.few)))

pub part-entry-requires : goal.part-entry-requires
part-entry-requires c =
    let given = c.requires.entries in
    let at = at_front 1 c.args.size given.0 c.args.bytes.now given.1 in
    let low : c.loop-i.i < length c.requires.entries.0 = omega (arith, c.loop-i-test.true, c.byte_at-count.ensures, at.count) in
    omega (arith, entry_inside 1 c.args.size given.0 c.args.bytes.now given.1.rest c.loop-i.i at low)

pub add_entry-requires : goal.add_entry-requires
add_entry-requires c = omega (arith, c.requires.long, c.part-entry.ensures.len)

pub loop-i-preserved : goal.loop-i-preserved
loop-i-preserved c = λ entries begin.
    let at = at_front 1 c.args.size entries c.args.bytes.now begin in
    let i = c.loop-i.i in
    let kind = c.args.kind in
    let low : c.loop-i.i < length entries = omega (arith, c.loop-i-test.true, c.byte_at-count.ensures, at.count) in
    let entry : c.part-entry.result.now ≡ get_or entries c.loop-i.i [] = c.part-entry.ensures.bytes ∙ at.each i low in
    c.in_ok-add_entry.ensures
    ∙ ap (λ (l : List ℕ). c.loop-i.marks.items ++ mark_of c.args.kind l ∷ []) entry
    ∙ ap (λ (l : List Mark). l ++ mark_of c.args.kind (get_or entries c.loop-i.i []) ∷ []) (c.loop-i.invariant entries begin)
    ∙ append_assoc c.args.marks.now.items (map (mark_of kind) (take i entries)) (mark_of kind (get_or entries i []) ∷ [])
    ∙ ap (λ (l : List Mark). c.args.marks.now.items ++ l)
    (sym (ap (λ (l : List (List ℕ)). map (mark_of c.args.kind) l) (take_more entries i [] low) ∙ mapped_more kind (take i entries) (get_or entries i [])))

pub returns : goal.returns
returns c = λ entries begin.
    let at = at_front 1 c.args.size entries c.args.bytes.now begin in
    let all : c.loop-i.i ≡ length entries = omega (arith, c.loop-i-test.false, c.loop-i.auto.i-end, c.byte_at-count.ensures, at.count) in
    c.loop-i.invariant entries begin
    ∙ ap (λ (n : ℕ). c.args.marks.now.items ++ map (mark_of c.args.kind) (take n entries)) all
    ∙ ap (λ (l : List (List ℕ)). c.args.marks.now.items ++ map (mark_of c.args.kind) l) (take-length entries)
