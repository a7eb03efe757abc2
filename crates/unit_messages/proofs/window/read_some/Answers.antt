use Rattle.std.proofs.Common.{inr, arith}
use Rattle.unit_memory.proofs.Told.{told_all}
use Rattle.unit_messages.proofs.Calls.{no_call}
use Rattle.unit_messages.proofs.Windows.{none_read}
use Rattle.unit_messages.proofs.window.read_some.Goals as goal

pub returns-then-count-eq0-clause-bytes : goal.returns-then-count-eq0-clause-bytes
returns-then-count-eq0-clause-bytes g c = told_all (g.M.Medium.state c.args.unit.now).image _ (λ x told. none_read c.args.out.now x c.args.place (omega arith))

pub returns-then-count-eq0-clause-reads : goal.returns-then-count-eq0-clause-reads
returns-then-count-eq0-clause-reads g c = no_call (g.M.Medium.state c.args.unit.now)

pub returns-clause-reads : goal.returns-clause-reads
returns-clause-reads g c = inr c.in_ok-read_at.ensures.reads
