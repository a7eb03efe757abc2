use Rattle.view_text.specs.Text.{IsUnitView}
use Rattle.tacho.proofs.Below.{lines-of-trace}
use Rattle.tacho.proofs.minutes_command.text_of.Goals as goal

pub lines_text-requires : goal.lines_text-requires
lines_text-requires c = rw (c.as_slice.ensures.value, c.in_ok-lines.ensures) (lines-of-trace c.args.rule c.args.trace.now.start c.args.trace.now.items c.requires.well c.requires.known)

pub returns : goal.returns
unfolding IsUnitView
returns c = rw (c.as_slice.ensures.value, c.in_ok-lines.ensures) at c.lines_text.ensures
