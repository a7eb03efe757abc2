use Rattle.std.proofs.Common.{arith}
use Rattle.trace_model.specs.declared.Item.TheVariants.{Run}
use Rattle.trace_text.specs.Line.{InRange}
use Rattle.trace_text.proofs.Runs.{run-lines, run-shorter}
use Rattle.trace_text.proofs.run_line.first_run.Goals as goal

pub returns-clause-range : goal.returns-clause-range
returns-clause-range c = (omega arith, omega arith, omega arith)

pub returns-clause-lines : goal.returns-clause-lines
returns-clause-lines c =
    let range : InRange (Run c.in_ok-seconds.seconds c.in_ok-speed.speed) = (omega arith, omega arith, omega arith) in
    run-lines c.in_ok-seconds.seconds c.in_ok-speed.speed range c.args.text.now c.in_ok-digits.digits.now c.in_ok-seconds.behind.now c.in_ok-speed.rest.now c.in_ok-digits.ensures c.in_ok-seconds.ensures c.in_ok-speed.ensures

pub returns-clause-shorter : goal.returns-clause-shorter
returns-clause-shorter c =
    let range : InRange (Run c.in_ok-seconds.seconds c.in_ok-speed.speed) = (omega arith, omega arith, omega arith) in
    run-shorter c.in_ok-seconds.seconds c.in_ok-speed.speed range c.args.text.now c.in_ok-digits.digits.now c.in_ok-seconds.behind.now c.in_ok-speed.rest.now c.in_ok-digits.ensures c.in_ok-seconds.ensures c.in_ok-speed.ensures
