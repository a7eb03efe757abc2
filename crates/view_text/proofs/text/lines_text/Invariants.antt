use Rattle.std.proofs.Common.{take}
use Rattle.calendar_days.specs.Calendar.{IsDateText}
use Rattle.view_text.specs.Text.{IsTextOf}
use Rattle.view_text.proofs.text.lines_text.Given as goal

-- the lines so far, and the date of the last one's day
abbrev pub invariant-loop-line : goal.invariant-loop-line
invariant-loop-line g l = record {
  text : IsTextOf g.T.Shown.words (take l.line-index l.lines) l.text.items;
  date : IsDateText l.day l.date.items;
}
