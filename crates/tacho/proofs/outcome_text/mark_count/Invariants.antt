use Rattle.std.proofs.Common.{◌≡◌, ◌≤◌, take}
use Rattle.tacho.specs.Outcomes.{mark_count}
use Rattle.tacho.proofs.outcome_text.mark_count.Given as goal

abbrev pub invariant-loop-i : goal.invariant-loop-i
invariant-loop-i l = record {
  few : l.count ≤ l.i;
  counted : l.count ≡ mark_count l.device (take l.i l.marks.items);
}
