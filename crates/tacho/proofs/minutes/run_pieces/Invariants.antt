use Rattle.std.proofs.Common.{◌≡◌, ◌+◌, ◌-◌, ◌≤◌}
use Rattle.minute_model.specs.Span.{Span, fed_many, decided_in}
use Rattle.minute_rules.specs.Kept.{CountsSpan}
use Rattle.tacho.specs.Minutes.{lines_shown}
use Rattle.tacho.proofs.minutes.run_pieces.Given as goal

abbrev pub invariant-loop-left : goal.invariant-loop-left
invariant-loop-left g l = record {
  most : l.left ≤ l.seconds;
  next : l.minutes.next + l.left ≡ l.initial.minutes.next + l.seconds;
  stands : (span : Span) → CountsSpan l.initial.minutes span → CountsSpan l.minutes (fed_many span l.speed (l.seconds - l.left));
  lines : (span : Span) → CountsSpan l.initial.minutes span → l.initial.lines.items ≡ lines_shown (decided_in span) → l.lines.items ≡ lines_shown (decided_in (fed_many span l.speed (l.seconds - l.left)));
}

abbrev pub decreases-loop-left : goal.decreases-loop-left
decreases-loop-left g l = l.left
