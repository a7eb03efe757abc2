use Rattle.std.proofs.Common.{rules}
use Rattle.tacho.proofs.end.Ended.by_wire.Goals as goal

pub returns : goal.returns
returns c = (c.empty.result, search rules, c.with.ensures)
