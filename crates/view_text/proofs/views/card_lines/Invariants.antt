use Rattle.std.proofs.Common.{◌≡◌, take, map}
use Rattle.view_model.specs.Lines.{lines_of, same_card}
use Rattle.view_text.specs.Entries.{entry_shown}
use Rattle.view_text.proofs.views.card_lines.Given as goal

-- the lines of the entries so far
abbrev pub invariant-loop-entry : goal.invariant-loop-entry
invariant-loop-entry l = l.lines.items ≡ lines_of same_card (map entry_shown (take l.entry-index l.entries))
