use Rattle.std.proofs.Common.{◌≡◌, List, take, drop, map}
use Rattle.message_model.specs.Messages.{Message}
use Rattle.view_model.specs.Lines.{lines_of, same_unit}
use Rattle.file_view.specs.Histories.{minute_shown}
use Rattle.file_view.specs.UnitFiles.{days_told}
use Rattle.file_view.specs.UnitShowing.{AreTold}
use Rattle.file_view.proofs.UnitDays.{days_minutes}
use Rattle.file_view.proofs.unit.unit_lines.Given as goal

-- the lines of the days so far
abbrev pub invariant-loop-day : goal.invariant-loop-day
invariant-loop-day l =
    (messages : List Message) → AreTold l.b messages l.told → l.lines.items ≡ lines_of same_unit (map minute_shown (days_minutes l.told.time (take l.day-index (drop l.from (days_told messages)))))
