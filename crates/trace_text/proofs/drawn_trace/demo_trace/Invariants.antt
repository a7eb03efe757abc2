use Rattle.std.proofs.Common.{◌≡◌, ◌*◌, ◌++◌}
use Rattle.trace_text.specs.Demo.{drawn, days_of}
use Rattle.trace_text.specs.declared.drawn_trace.TheConstants.{PARTS}
use Rattle.trace_text.proofs.drawn_trace.demo_trace.Given as goal

-- so many days are there, and the number behind them
abbrev pub invariant-loop-d : goal.invariant-loop-d
invariant-loop-d l = record {
  items : l.items ≡ l.initial.items ++ days_of l.d l.x;
  last : l.last ≡ drawn (3 * PARTS * l.d) l.x;
}
