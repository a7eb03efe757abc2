use Rattle.view_model.specs.Lines.{same_unit}
use Rattle.view_text.specs.Text.{IsUnitView}
use Rattle.tacho_types.specs.declared.calendar.TheConstants.{DAYS}
use Rattle.view_text.proofs.Texts.{lines-below}
use Rattle.view_text.proofs.views.unit_text.Goals as goal

pub lines_text-requires : goal.lines_text-requires
lines_text-requires c = rw (c.as_slice.ensures.value, c.in_ok-lines.ensures) (lines-below DAYS same_unit c.args.minutes.now c.requires)

pub returns : goal.returns
unfolding IsUnitView
returns c = rw (c.as_slice.ensures.value, c.in_ok-lines.ensures) at c.lines_text.ensures
