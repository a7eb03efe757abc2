use Rattle.std.proofs.Common.{◌≡◌, length, map, take}
use Rattle.minute_rules.specs.Alike.{further}
use Rattle.minute_rules.proofs.minutes.Minutes.later.Given as goal

abbrev pub invariant-loop-i : goal.invariant-loop-i
invariant-loop-i l = record {
  all : l.past.items ≡ map (further l.more) (take l.i l.were);
  many : length l.past.items ≡ l.i;
}
