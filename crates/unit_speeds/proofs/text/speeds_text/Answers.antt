use Rattle.std.proofs.Common.{◌∙◌, List, sym, subst}
use Rattle.file_view.specs.declared.places.MessageAt.{MessageAt}
use Rattle.file_view.specs.Places.{ArePlaced}
use Rattle.unit_speeds.specs.declared.line.SpeedLine.{SpeedLine}
use Rattle.unit_speeds.specs.Text.{AreSpeedLines, last_lines}
use Rattle.unit_speeds.proofs.text.speeds_text.Goals as goal

pub lines_in-requires : goal.lines_in-requires
lines_in-requires c =
    let placed = c.in_ok-all.ensures.placed in
    (placed.0, subst (λ (l : List MessageAt). ArePlaced c.args.b.now l placed.0) (sym c.as_slice.ensures.value) placed.2)

pub returns-clause-text : goal.returns-clause-text
returns-clause-text c =
    let placed = c.in_ok-all.ensures.placed in
    let are = subst (λ (l : List MessageAt). ArePlaced c.args.b.now l placed.0) (sym c.as_slice.ensures.value) placed.2 in
    record {
      messages = placed.0;
      file = placed.1;
      text = subst (λ (l : List SpeedLine). AreSpeedLines (last_lines c.args.last l) c.in_ok-text.text.items) (c.as_slice-2.ensures.value ∙ c.in_ok-lines.ensures placed.0 are) c.in_ok-text.ensures;
    }
