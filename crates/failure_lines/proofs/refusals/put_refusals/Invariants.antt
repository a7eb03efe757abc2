use Rattle.std.proofs.Common.{◌≤◌, ℕ, List, take}
use Rattle.std.specs.Io.KnownBytes.{Appends}
use Rattle.failure_lines.specs.Refusals.{AreRefusalLines}
use Rattle.failure_lines.proofs.refusals.put_refusals.Given as goal

-- the lines so far; no count of a fault has fallen
abbrev pub invariant-loop-i : goal.invariant-loop-i
invariant-loop-i g l = record {
  told : (text : List ℕ) × AreRefusalLines (take l.i l.refused.items) text × Appends (g.K.Sink.held l.initial.sink) (g.K.Sink.held l.sink) text;
  later : g.K.Sink.faults l.initial.sink ≤ g.K.Sink.faults l.sink;
}
