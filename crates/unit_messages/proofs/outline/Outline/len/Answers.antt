use Rattle.unit_messages.proofs.Lengths.{length_by}
use Rattle.unit_messages.proofs.outline.Outline.len.Goals as goal

pub returns-clause-told : goal.returns-clause-told
returns-clause-told c = λ x long known. length_by c.args.self.now x c.total.result c.total.ensures.len long known
