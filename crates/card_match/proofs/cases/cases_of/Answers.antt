use Rattle.std.proofs.Common.{◌∙◌, List, ◌++◌, get_or, take, ap, sym}
use Rattle.std.proofs.lemmas.List.{take_more}
use Rattle.view_model.specs.declared.CardShown.{CardShown}
use Rattle.view_model.specs.declared.Line.{Line}
use Rattle.file_view.specs.Histories.{line_minutes, minutes_on}
use Rattle.card_match.specs.declared.cases.Case.{Case}
use Rattle.card_match.proofs.Empty.{no_card_line}
use Rattle.card_match.proofs.Lines.{cases_on, cases_more}
use Rattle.card_match.proofs.cases.cases_of.Goals as goal

pub loop-line-preserved : goal.loop-line-preserved
loop-line-preserved c =
    let lines = c.args.lines.now in
    let i = c.loop-line.line-index in
    c.in_ok-add_line.ensures
    ∙ ap (λ (l : List Case). l ++ cases_on (line_minutes (get_or c.args.lines.now c.loop-line.line-index no_card_line))) c.loop-line.invariant
    ∙ sym (ap (λ (ls : List (Line CardShown)). cases_on (minutes_on ls)) (take_more lines i no_card_line c.loop-line-test.true)
    ∙ cases_more (take c.loop-line.line-index c.args.lines.now) (get_or c.args.lines.now c.loop-line.line-index no_card_line))
