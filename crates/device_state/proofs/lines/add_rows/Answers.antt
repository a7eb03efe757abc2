use Rattle.std.proofs.Common.{◌∙◌, ◌++◌, List, None, ◌<◌, take, get_or, length, ap, sym, arith}
use Rattle.std.specs.List.{flat_map}
use Rattle.std.proofs.lemmas.List.{take_more, flat_map_more}
use Rattle.state_text.specs.declared.line.Line.{Line}
use Rattle.device_state.specs.Lines.{owed_line}
use Rattle.device_state.proofs.lines.add_rows.Goals as goal

pub loop-row-preserved : goal.loop-row-preserved
loop-row-preserved c =
    let rows = c.args.rows.now in
    let i = c.loop-row.row-index in
    let lt : i < length rows = omega arith in
    c.in_ok-add_owed.ensures
    ∙ ap (λ (l : List Line). l ++ owed_line (get_or rows i None)) c.loop-row.invariant
    ∙ flat_map_more owed_line c.args.lines.now.items (take i rows) (get_or rows i None)
    ∙ ap (λ (l : List _). c.args.lines.now.items ++ flat_map owed_line l) (sym (take_more rows i None lt))
