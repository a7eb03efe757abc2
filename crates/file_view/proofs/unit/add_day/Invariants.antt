use Rattle.std.proofs.Common.{◌≡◌, ◌-◌, ◌≤◌, List, ◌++◌, map}
use Rattle.unit_model.specs.Days.{UnitMinute}
use Rattle.message_model.specs.Messages.{DayMessage}
use Rattle.view_model.specs.Lines.{lines_of, same_unit}
use Rattle.file_view.specs.Histories.{minute_shown}
use Rattle.file_view.specs.UnitShowing.{IsStoredAt}
use Rattle.file_view.proofs.UnitDays.{first_minutes}
use Rattle.file_view.proofs.unit.add_day.Given as goal

-- the lines of the minutes so far
abbrev pub invariant-loop-t : goal.invariant-loop-t
invariant-loop-t l = record {
  most : l.t ≤ l.count;
  told : (m : DayMessage) (before : List UnitMinute) → IsStoredAt l.b l.fn.day m → l.initial.lines.items ≡ lines_of same_unit (map minute_shown before)
      → l.lines.items ≡ lines_of same_unit (map minute_shown (before ++ first_minutes m l.t));
}

abbrev pub decreases-loop-t : goal.decreases-loop-t
decreases-loop-t l = l.count - l.t
