use Rattle.std.proofs.Common.{◌≡◌, ◌+◌, drop}
use Rattle.trace_model.specs.Trace.{total_seconds}
use Rattle.run_outcome.proofs.outcome.seconds_of.Given as goal

abbrev pub invariant-loop-i : goal.invariant-loop-i
invariant-loop-i l = l.total + total_seconds (drop l.i l.items) ≡ total_seconds l.items
