use Rattle.std.proofs.Common.{arith}
use Rattle.worked_rows.proofs.card.tests.inserted.Goals as goal

pub insertion-requires-clause-owed : goal.insertion-requires-clause-owed
insertion-requires-clause-owed c = c.four-owed.ensures 67306200 (omega arith)
