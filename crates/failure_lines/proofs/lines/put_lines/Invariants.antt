use Rattle.std.proofs.Common.{◌≡◌, ◌≤◌, ℕ, List, take}
use Rattle.std.specs.Prelude.{count_by}
use Rattle.std.specs.Io.KnownBytes.{Appends}
use Rattle.failure_lines.specs.Failures.{AreTold, is_failed}
use Rattle.failure_lines.proofs.lines.put_lines.Given as goal

-- the breaks so far; no count of a fault has fallen
abbrev pub invariant-loop-i : goal.invariant-loop-i
invariant-loop-i g l = record {
  few : l.failed ≤ l.i;
  counted : l.failed ≡ count_by is_failed (take l.i l.breaks.items);
  told : (text : List ℕ) × AreTold (take l.i l.breaks.items) text × Appends (g.K.Sink.held l.initial.sink) (g.K.Sink.held l.sink) text;
  later : g.K.Sink.faults l.initial.sink ≤ g.K.Sink.faults l.sink;
}
