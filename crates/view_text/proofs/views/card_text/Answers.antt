use Rattle.std.specs.Prelude.{map}
use Rattle.view_model.specs.Lines.{same_card}
use Rattle.view_text.specs.Text.{IsCardView}
use Rattle.view_text.specs.Entries.{entry_shown}
use Rattle.tacho_types.specs.declared.calendar.TheConstants.{DAYS}
use Rattle.view_text.proofs.Texts.{lines-below, entries-below}
use Rattle.view_text.proofs.views.card_text.Goals as goal

pub lines_text-requires : goal.lines_text-requires
lines_text-requires c = rw (c.as_slice.ensures.value, c.in_ok-lines.ensures) (lines-below DAYS same_card (map entry_shown c.args.entries.now) (entries-below DAYS c.args.entries.now c.requires))

pub returns : goal.returns
unfolding IsCardView
returns c = rw (c.as_slice.ensures.value, c.in_ok-lines.ensures) at c.lines_text.ensures
