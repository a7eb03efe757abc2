use Rattle.std.proofs.Common.{◌≡◌, ◌*◌, ◌++◌}
use Rattle.trace_model.specs.Trace.{total_seconds}
use Rattle.trace_text.specs.Demo.{drawn, parts_of}
use Rattle.trace_text.proofs.drawn_trace.add_day.Given as goal

-- so many parts are there, with their seconds, and the number behind them
abbrev pub invariant-loop-k : goal.invariant-loop-k
invariant-loop-k l = record {
  items : l.items ≡ l.initial.items ++ parts_of l.k l.x;
  seconds : l.seconds ≡ total_seconds (parts_of l.k l.x);
  last : l.last ≡ drawn (3 * l.k) l.x;
}
