use Rattle.std.proofs.Common.{◌≡◌, take, map}
use Rattle.file_view.specs.Histories.{minutes_on}
use Rattle.slot_bars.specs.Seeing.{bars_of, slot_seen}
use Rattle.slot_bars.proofs.bars.unit_bars.Given as goal

-- the bars of the lines so far
abbrev pub invariant-loop-line : goal.invariant-loop-line
invariant-loop-line l = l.bars.items ≡ bars_of (map (slot_seen l.gaps l.slot) (minutes_on (take l.line-index l.lines)))
