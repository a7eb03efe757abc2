use Rattle.std.proofs.Common.{arith}
use Rattle.unit_messages.proofs.Passing.{bytes_few}
use Rattle.unit_messages.proofs.entries.Entries.bytes_of.Goals as goal

pub overflow_mul-result : goal.overflow_mul-result
overflow_mul-result c = omega (arith, bytes_few c.args.self.now c.args.count c.requires.entries c.requires.few)

pub returns-clause-few : goal.returns-clause-few
returns-clause-few c = bytes_few c.args.self.now c.args.count c.requires.entries c.requires.few
