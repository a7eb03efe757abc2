use Rattle.std.proofs.Common.{◌≡◌, take, drop, map}
use Rattle.card_model.specs.Walk.{days_of}
use Rattle.card_retention.specs.Entries.{entries_up_to}
use Rattle.view_model.specs.Lines.{lines_of, same_card}
use Rattle.view_text.specs.Entries.{entry_shown}
use Rattle.file_view.proofs.card.card_lines.Given as goal

-- the lines of the days so far
abbrev pub invariant-loop-head : goal.invariant-loop-head
invariant-loop-head l = l.lines.items ≡ lines_of same_card (map entry_shown (entries_up_to l.mark (take l.head-index (drop l.from (days_of l.string.shape l.file)))))
