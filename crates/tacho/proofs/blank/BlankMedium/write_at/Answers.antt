use Rattle.std.proofs.Common.{length}
use Rattle.tacho.proofs.NoCard.{blank-writes, blank-few, blank-broken}
use Rattle.tacho.proofs.blank.BlankMedium.write_at.Goals as goal

pub returns-clause-moments : goal.returns-clause-moments
returns-clause-moments c = blank-writes c.args.self.now.broken _

pub returns-clause-few : goal.returns-clause-few
returns-clause-few c = blank-few c.args.self.now.broken (length c.args._bytes.now)

pub returns-clause-cause : goal.returns-clause-cause
returns-clause-cause c = blank-broken c.args.self.now.broken
