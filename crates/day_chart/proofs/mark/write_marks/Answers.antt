use Rattle.std.proofs.Common.{◌∙◌, List, ℕ, ◌++◌, get_or, take, ap, sym, append_assoc}
use Rattle.std.proofs.lemmas.List.{take_more}
use Rattle.view_model.specs.declared.marks.Mark.{Mark}
use Rattle.day_chart.specs.Marks.{day_mark_text, marks_text}
use Rattle.day_chart.proofs.Marked.{no_mark, marks_more}
use Rattle.day_chart.proofs.mark.write_marks.Goals as goal

pub loop-mark-preserved : goal.loop-mark-preserved
loop-mark-preserved c =
    let marks = c.args.marks.now in
    let i = c.loop-mark.mark-index in
    let date = c.args.date.now in
    let day = c.args.day in
    let mark : Mark = get_or c.args.marks.now c.loop-mark.mark-index no_mark in
    c.in_ok-write_day_mark.ensures
    ∙ ap (λ (l : List ℕ). l ++ day_mark_text c.args.date.now c.args.day (get_or c.args.marks.now c.loop-mark.mark-index no_mark)) c.loop-mark.invariant
    ∙ append_assoc c.args.text.now.items (marks_text date day (take i marks)) (day_mark_text date day mark)
    ∙ ap (λ (l : List ℕ). c.args.text.now.items ++ l)
    (sym (ap (λ (l : List Mark). marks_text c.args.date.now c.args.day l) (take_more marks i no_mark c.loop-mark-test.true) ∙ marks_more date day (take i marks) mark))
