use Rattle.std.proofs.Common.{◌∙◌, ◌+◌, ◌-◌, List, [], ◌++◌, map, ap}
use Rattle.activity_codec.specs.declared.values.Slot.TheVariants.{Driver}
use Rattle.view_model.specs.declared.UnitShown.{UnitShown}
use Rattle.view_model.specs.declared.Viewed.{Viewed}
use Rattle.view_model.specs.declared.Line.{Line}
use Rattle.view_model.specs.declared.marks.Gap.{Gap}
use Rattle.file_view.specs.Histories.{line_minutes}
use Rattle.slot_bars.specs.declared.seen.Seen.{Seen}
use Rattle.slot_bars.specs.Seeing.{bars_of, slot_seen}
use Rattle.slot_bars.proofs.Runs.{card_row}
use Rattle.slot_bars.proofs.bars.add_card_line.Goals as goal

pub returns : goal.returns
returns c = λ minutes is.
    let line = c.args.line in
    c.in_ok-add_line.ensures minutes is
    ∙ ap (λ (gaps : List Gap). bars_of (minutes ++ map (slot_seen gaps Driver) (line_minutes c.as_unit.result))) c.requires
    ∙ ap (λ (l : Line UnitShown). bars_of (minutes ++ map (slot_seen [] Driver) (line_minutes l))) c.as_unit.ensures
    ∙ ap (λ (l : List (Viewed Seen)). bars_of (minutes ++ l)) (card_row line line.first (line.last + 1 - line.first))
