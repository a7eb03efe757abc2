use Rattle.std.proofs.Common.{◌≡◌, ◌-◌, ◌≤◌, List, ◌++◌, map}
use Rattle.activity_codec.specs.declared.entries.Entry.{Entry}
use Rattle.card_model.specs.Days.{Day}
use Rattle.card_retention.specs.Entries.{entry_at, minutes_from}
use Rattle.view_model.specs.Lines.{lines_of, same_card}
use Rattle.view_text.specs.Entries.{entry_shown}
use Rattle.file_view.specs.Walking.{IsDayAt}
use Rattle.file_view.proofs.card.add_day.Given as goal

-- the lines of the minutes so far
abbrev pub invariant-loop-t : goal.invariant-loop-t
invariant-loop-t l = record {
  most : l.t ≤ 1440;
  told : (d : Day) (before : List Entry) → IsDayAt l.string.shape l.file l.head d → l.initial.lines.items ≡ lines_of same_card (map entry_shown before)
      → l.lines.items ≡ lines_of same_card (map entry_shown (before ++ minutes_from (entry_at l.mark d) l.t 0));
}

abbrev pub decreases-loop-t : goal.decreases-loop-t
decreases-loop-t l = 1440 - l.t
