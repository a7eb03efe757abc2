use Rattle.std.proofs.Common.{◌≡◌, ◌+◌, ◌≤◌, drop, length}
use Rattle.run_insertion.specs.Entering.{and_marks}
use Rattle.run_insertion.proofs.lines.tell_replayed.Given as goal

abbrev pub invariant-loop-entry : goal.invariant-loop-entry
invariant-loop-entry l = record {
  told : and_marks l.device l.clock (drop l.entry-index l.last) l.marks ≡ and_marks l.device l.clock l.last l.fn.marks;
  room : l.marks.room ≡ l.fn.marks.room;
  few : length l.marks.items ≤ length l.fn.marks.items + l.entry-index;
}
