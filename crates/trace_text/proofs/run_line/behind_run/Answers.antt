use Rattle.std.proofs.Common.{arith}
use Rattle.trace_text.proofs.Runs.{begins-run}
use Rattle.trace_text.proofs.run_line.behind_run.Goals as goal

pub returns-then-text-eq32 : goal.returns-then-text-eq32
returns-then-text-eq32 c =
    begins-run c.args.text.now (omega (arith, c.if-text-lt-WORD.false)) c.if-text-eq114.true c.if-text-eq117.true c.if-text-eq110.true c.if-text-eq32.true
