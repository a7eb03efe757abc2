use Rattle.std.proofs.Common.{arith}
use Rattle.unit_messages.proofs.Passing.{shut_out, let_in}
use Rattle.unit_messages.proofs.entries.Entries.takes.Goals as goal

pub returns-then-gate-eq0 : goal.returns-then-gate-eq0
returns-then-gate-eq0 c = shut_out c.args.self.now c.args.entry.now c.four_in-gate.result c.four_in-gate.ensures c.if-gate-eq0.true

pub returns : goal.returns
returns c = let_in c.args.self.now c.args.entry.now c.four_in-gate.result c.takes.result c.four_in-gate.ensures (omega arith) c.takes.ensures
