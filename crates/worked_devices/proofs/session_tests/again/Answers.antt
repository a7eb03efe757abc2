use Rattle.std.proofs.Common.{arith}
use Rattle.worked_devices.proofs.session_tests.again.Goals as goal

pub inserted-requires-clause-owed : goal.inserted-requires-clause-owed
inserted-requires-clause-owed c = c.four-owed.ensures 1267437900 (omega arith)
