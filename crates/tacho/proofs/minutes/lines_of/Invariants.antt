use Rattle.std.proofs.Common.{◌≡◌, ◌+◌, ◌≤◌, take, drop}
use Rattle.minute_model.specs.Span.{begin, decided_in}
use Rattle.minute_rules.specs.Kept.{CountsSpan}
use Rattle.trace_model.specs.Trace.{total_seconds}
use Rattle.tacho.specs.Feeding.{fed_items}
use Rattle.tacho.specs.Minutes.{lines_shown}
use Rattle.tacho.specs.declared.minutes.TheConstants.{LAST_TIME}
use Rattle.tacho.proofs.minutes.lines_of.Given as goal

abbrev pub invariant-loop-i : goal.invariant-loop-i
invariant-loop-i l = record {
  stands : CountsSpan l.minutes (fed_items (begin l.fn.rule l.trace.start) (take l.i l.trace.items));
  lines : l.lines.items ≡ lines_shown (decided_in (fed_items (begin l.fn.rule l.trace.start) (take l.i l.trace.items)));
  next : l.minutes.next + total_seconds (drop l.i l.trace.items) ≤ LAST_TIME;
}
