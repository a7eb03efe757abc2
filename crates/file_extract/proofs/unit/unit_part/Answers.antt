use Rattle.std.proofs.Common.{arith}
use Rattle.file_extract.proofs.Fronts.{is_part, no_part}
use Rattle.file_extract.proofs.unit.unit_part.Goals as goal

pub returns-then-end-eq0-clause-none : goal.returns-then-end-eq0-clause-none
returns-then-end-eq0-clause-none c = no_part c.args.b.now c.messages_end-end.result c.messages_end-end.ensures.0 c.messages_end-end.ensures.1 (omega arith)

pub returns-else-end-eq0-clause-part : goal.returns-else-end-eq0-clause-part
returns-else-end-eq0-clause-part c = is_part c.args.b.now c.messages_end-end.result c.messages_end-end.ensures.0 c.messages_end-end.ensures.1 (omega arith)
