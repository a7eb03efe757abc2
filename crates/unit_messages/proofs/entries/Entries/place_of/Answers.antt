use Rattle.std.proofs.Common.{arith}
use Rattle.unit_messages.proofs.Passing.{entries_end}
use Rattle.unit_messages.proofs.entries.Entries.place_of.Goals as goal

pub overflow_mul-result : goal.overflow_mul-result
overflow_mul-result c = omega (arith, entries_end c.args.self.now c.args.index c.args.count c.requires.entries c.requires.inside)

pub overflow_add-result : goal.overflow_add-result
overflow_add-result c = omega (arith, entries_end c.args.self.now c.args.index c.args.count c.requires.entries c.requires.inside)

pub returns-clause-inside : goal.returns-clause-inside
returns-clause-inside c = entries_end c.args.self.now c.args.index c.args.count c.requires.entries c.requires.inside
