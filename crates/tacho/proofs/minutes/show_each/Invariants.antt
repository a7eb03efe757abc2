use Rattle.std.proofs.Common.{◌≡◌, ℕ, ◌++◌, List}
use Rattle.minute_model.specs.declared.Minute.{Minute}
use Rattle.minute_rules.specs.Alike.{repeated}
use Rattle.tacho.specs.Minutes.{lines_shown}
use Rattle.tacho.proofs.minutes.show_each.Given as goal

abbrev pub invariant-loop-turn : goal.invariant-loop-turn
invariant-loop-turn l = (speed : ℕ) (before : List Minute) → l.initial.lines.items ≡ lines_shown before → l.lines.items ≡ lines_shown (before ++ repeated speed l.turn l.minutes)
