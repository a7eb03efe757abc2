use Rattle.std.proofs.Common.{◌≡◌, ◌∙◌, ℕ, ◌<◌, List, [], ◌∷◌, ◌++◌, length, get_or, take, ap, sym, arith}
use Rattle.std.proofs.Math.Seq.{take-length}
use Rattle.std.proofs.lemmas.List.{take_more}
use Rattle.message_model.specs.Messages.{Message}
use Rattle.view_model.specs.declared.marks.Gap.{Gap}
use Rattle.unit_marks.specs.Marks.{gaps_told}
use Rattle.file_view.proofs.Placing.{no_message_at, no_told}
use Rattle.file_view.proofs.Placing.{placed_at, placed_count}
use Rattle.unit_marks.proofs.Telling.{gaps_more}
use Rattle.unit_marks.proofs.marks.gaps_in.Goals as goal

pub add_message_gaps-requires : goal.add_message_gaps-requires
add_message_gaps-requires c =
    (get_or c.requires.0 c.loop-at.at-index no_told, placed_at c.args.b.now c.args.all.now c.requires.0 c.requires.1 c.loop-at.at-index c.loop-at-test.true no_message_at no_told)

pub loop-at-preserved : goal.loop-at-preserved
loop-at-preserved c = λ messages are.
    let i = c.loop-at.at-index in
    let low : c.loop-at.at-index < length messages = omega (arith, c.loop-at-test.true, placed_count c.args.b.now c.args.all.now messages are) in
    let m : Message = get_or messages c.loop-at.at-index no_told in
    c.in_ok-add_message_gaps.ensures m (placed_at c.args.b.now c.args.all.now messages are i c.loop-at-test.true no_message_at no_told)
    ∙ ap (λ (l : List Gap). l ++ gaps_told (get_or messages c.loop-at.at-index no_told ∷ [])) (c.loop-at.invariant messages are)
    ∙ sym (ap (λ (l : List Message). gaps_told l) (take_more messages i no_told low) ∙ gaps_more (take i messages) m)

pub returns : goal.returns
returns c = λ messages are.
    let all : c.loop-at.at-index ≡ length messages = omega (arith, c.loop-at-test.false, c.loop-at.auto.at-index-end, placed_count c.args.b.now c.args.all.now messages are) in
    c.loop-at.invariant messages are
    ∙ ap (λ (n : ℕ). gaps_told (take n messages)) all
    ∙ ap (λ (l : List Message). gaps_told l) (take-length messages)
