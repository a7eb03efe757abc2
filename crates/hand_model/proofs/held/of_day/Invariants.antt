use Rattle.std.proofs.Common.{◌≡◌, drop}
use Rattle.hand_model.specs.Holding.{of_day}
use Rattle.hand_model.proofs.held.of_day.Given as goal

-- those behind an index are what they are of all
abbrev pub invariant-loop-index : goal.invariant-loop-index
invariant-loop-index l = of_day l.day l.entries ≡ of_day l.day (drop l.index l.entries)
