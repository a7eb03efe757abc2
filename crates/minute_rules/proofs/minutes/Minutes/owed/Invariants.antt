use Rattle.std.proofs.Common.{◌≡◌, ◌-◌, ◌++◌, length}
use Rattle.minute_rules.specs.Kept.{owed, owed_from}
use Rattle.minute_rules.proofs.minutes.Minutes.owed.Given as goal

abbrev pub invariant-loop-i : goal.invariant-loop-i
invariant-loop-i l = record {
  all : l.decided.items ++ owed_from l.self (l.self.owing - l.i) ≡ owed l.self;
  many : length l.decided.items ≡ l.i;
}
