use Rattle.std.proofs.Common.{◌∙◌, List, get_or, take, map, ap, sym}
use Rattle.std.proofs.lemmas.List.{take_more}
use Rattle.view_model.specs.declared.UnitShown.{UnitShown}
use Rattle.view_model.specs.declared.Viewed.{Viewed}
use Rattle.view_model.specs.declared.Line.{Line}
use Rattle.file_view.specs.Histories.{minutes_on}
use Rattle.slot_bars.specs.declared.seen.Seen.{Seen}
use Rattle.slot_bars.specs.Seeing.{bars_of, slot_seen}
use Rattle.slot_bars.proofs.Empty.{no_unit_line}
use Rattle.slot_bars.proofs.Runs.{seen_more}
use Rattle.slot_bars.proofs.bars.unit_bars.Goals as goal

pub loop-line-preserved : goal.loop-line-preserved
loop-line-preserved c =
    let lines = c.args.lines.now in
    let i = c.loop-line.line-index in
    let see = slot_seen c.args.gaps.now c.args.slot in
    c.in_ok-add_line.ensures (map see (minutes_on (take c.loop-line.line-index c.args.lines.now))) c.loop-line.invariant
    ∙ ap (λ (l : List (Viewed Seen)). bars_of l)
    (sym (ap (λ (ls : List (Line UnitShown)). map see (minutes_on ls)) (take_more lines i no_unit_line c.loop-line-test.true)
    ∙ seen_more see (take i lines) (get_or lines i no_unit_line)))
