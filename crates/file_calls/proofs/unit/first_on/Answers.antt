use Rattle.std.proofs.Common.{◌∙◌, ◌||◌, Bool, List, get_or, take, map, ap, sym}
use Rattle.std.proofs.lemmas.List.{take_more}
use Rattle.view_model.specs.declared.UnitShown.{UnitShown}
use Rattle.view_model.specs.declared.Line.{Line}
use Rattle.file_view.specs.Histories.{minute_told, minutes_on}
use Rattle.card_match.specs.Cases.{begins_by, line_from}
use Rattle.card_match.proofs.Empty.{no_unit_line}
use Rattle.card_match.proofs.Beginning.{begins_more}
use Rattle.file_calls.proofs.unit.first_on.Goals as goal

pub loop-line-preserved : goal.loop-line-preserved
loop-line-preserved c = λ day.
    ap (λ (ls : List (Line UnitShown)). begins_by (map minute_told (minutes_on ls)) day) (take_more c.args.lines.now c.loop-line.line-index no_unit_line c.loop-line-test.true)
    ∙ begins_more (take c.loop-line.line-index c.args.lines.now) (get_or c.args.lines.now c.loop-line.line-index no_unit_line) day
    ∙ ap (λ (b : Bool). b || line_from (get_or c.args.lines.now c.loop-line.line-index no_unit_line) day) (c.loop-line.invariant day)
    ∙ sym (c.earlier_day-first.ensures day)
