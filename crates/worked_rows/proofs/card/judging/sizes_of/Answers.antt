use Rattle.card_layout.specs.Files.{files_of}
use Rattle.worked_rows.proofs.card.judging.sizes_of.Goals as goal

pub returns-in-Ok-clause-told : goal.returns-in-Ok-clause-told
unfolding files_of
returns-in-Ok-clause-told c = c.in-Ok.ensures.value.0
