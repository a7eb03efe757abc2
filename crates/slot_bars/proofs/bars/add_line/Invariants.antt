use Rattle.std.proofs.Common.{◌≡◌, ◌≤◌, ◌+◌, ◌-◌, ◌++◌, List, map}
use Rattle.view_model.specs.declared.Viewed.{Viewed}
use Rattle.slot_bars.specs.declared.seen.Seen.{Seen}
use Rattle.slot_bars.specs.Seeing.{bars_of, slot_seen}
use Rattle.file_view.proofs.Growing.{row}
use Rattle.slot_bars.proofs.bars.add_line.Given as goal

-- the bars with the minutes so far
abbrev pub invariant-loop-minute : goal.invariant-loop-minute
invariant-loop-minute l = record {
  few : l.minute - l.fn.line.first ≤ l.fn.line.last + 1 - l.fn.line.first;
  told : (minutes : List (Viewed Seen)) → l.initial.bars.items ≡ bars_of minutes
      → l.bars.items ≡ bars_of (minutes ++ map (slot_seen l.gaps l.fn.slot) (row l.fn.line.shown l.fn.line.first (l.minute - l.fn.line.first)));
}
