use Rattle.std.proofs.Common.{arith}
use Rattle.trace_text.specs.declared.drawn_trace.TheConstants.{PARTS}
use Rattle.trace_text.proofs.Groups.{parts-few, day-whole, demo-whole}
use Rattle.trace_text.proofs.drawn_laws.a_demonstration_has_its_seconds.Goals as goal

pub returns-clause-parts : goal.returns-clause-parts
returns-clause-parts c = λ x. omega (arith, parts-few PARTS x)

pub returns-clause-day : goal.returns-clause-day
returns-clause-day c = day-whole

pub returns-clause-all : goal.returns-clause-all
returns-clause-all c = demo-whole
