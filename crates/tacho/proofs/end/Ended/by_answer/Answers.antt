use Rattle.std.proofs.Common.{rules}
use Rattle.tacho.proofs.end.Ended.by_answer.Goals as goal

pub returns : goal.returns
returns c = (c.empty.result, search rules, c.after.ensures)
