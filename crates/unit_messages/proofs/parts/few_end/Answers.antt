use Rattle.std.proofs.Common.{arith}
use Rattle.unit_messages.proofs.Cutting.{counted_is}
use Rattle.unit_messages.proofs.parts.few_end.Goals as goal

pub returns-clause-end : goal.returns-clause-end
returns-clause-end c = counted_is c.args.bytes.now c.args.at 1 c.args.size c.one_in-count.result c.within.result (omega arith) c.one_in-count.ensures c.within.ensures.end
