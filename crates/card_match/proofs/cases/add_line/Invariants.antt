use Rattle.std.proofs.Common.{◌≡◌, ◌≤◌, ◌+◌, ◌-◌, ◌++◌, map}
use Rattle.std.specs.List.{range_with_len}
use Rattle.card_match.proofs.Lines.{viewed, cases_on}
use Rattle.card_match.proofs.cases.add_line.Given as goal

-- the minutes so far
abbrev pub invariant-loop-minute : goal.invariant-loop-minute
invariant-loop-minute l = record {
  few : l.minute - l.fn.line.first ≤ l.fn.line.last + 1 - l.fn.line.first;
  told : l.cases.items ≡ l.initial.cases.items ++ cases_on (map (viewed l.fn.line.shown) (range_with_len l.fn.line.first (l.minute - l.fn.line.first)));
}
