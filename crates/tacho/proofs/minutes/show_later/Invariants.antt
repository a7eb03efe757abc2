use Rattle.std.proofs.Common.{◌≡◌, ℕ, ◌++◌, map, take, List}
use Rattle.minute_model.specs.declared.Minute.{Minute}
use Rattle.minute_rules.specs.Alike.{minute_later}
use Rattle.tacho.specs.Minutes.{lines_shown}
use Rattle.tacho.proofs.minutes.show_later.Given as goal

abbrev pub invariant-loop-minute : goal.invariant-loop-minute
invariant-loop-minute l = (speed : ℕ) (before : List Minute) → l.initial.lines.items ≡ lines_shown before → l.lines.items ≡ lines_shown (before ++ map (minute_later l.later speed) (take l.minute-index l.minutes))
