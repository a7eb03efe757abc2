use Rattle.std.proofs.Common.{◌≡◌, take}
use Rattle.file_view.specs.Histories.{minutes_on}
use Rattle.day_totals.specs.Figures.{total}
use Rattle.day_totals.proofs.figures.minutes_in.Given as goal

-- the minutes of the bars so far that count
abbrev pub invariant-loop-bar : goal.invariant-loop-bar
invariant-loop-bar l = l.sum ≡ total l.figure (minutes_on (take l.bar-index l.bars))
