use Rattle.std.proofs.Common.{◌≡◌, ◌≤◌, ◌+◌, ◌-◌, ◌++◌, List, map}
use Rattle.view_model.specs.declared.Viewed.{Viewed}
use Rattle.slot_bars.specs.declared.seen.Seen.{Seen}
use Rattle.slot_bars.specs.Seeing.{bars_of, slot_seen}
use Rattle.file_view.proofs.Growing.{row}
use Rattle.slot_bars.proofs.bars.add_parts.Given as goal

-- the bars with the minutes so far
abbrev pub invariant-parts : goal.invariant-parts
invariant-parts l = record {
  begun : l.fn.line.first ≤ l.from;
  within : l.from ≤ l.fn.line.last + 1;
  told : (minutes : List (Viewed Seen)) → l.initial.bars.items ≡ bars_of minutes
      → l.bars.items ≡ bars_of (minutes ++ map (slot_seen l.gaps l.fn.slot) (row l.fn.line.shown l.fn.line.first (l.from - l.fn.line.first)));
}

abbrev pub decreases-parts : goal.decreases-parts
decreases-parts l = l.fn.line.last + 1 - l.from
