use Rattle.std.proofs.Common.{◌∙◌, sym, ap, take, arith}
use Rattle.std.proofs.lemmas.List.{take_more}
use Rattle.view_model.specs.Lines.{lines_of, same_unit}
use Rattle.view_text.proofs.views.unit_lines.Goals as goal

pub loop-minute-preserved : goal.loop-minute-preserved
loop-minute-preserved c =
    c.in_ok-add_minute.ensures (take c.loop-minute.minute-index c.args.minutes.now) c.loop-minute.invariant
    ∙ ap (lines_of same_unit) (sym (take_more c.args.minutes.now c.loop-minute.minute-index _ (omega arith)))
