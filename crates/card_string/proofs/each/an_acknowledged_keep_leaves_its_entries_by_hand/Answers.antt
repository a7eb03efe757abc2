use Rattle.card_string.proofs.Images.{each_sure, holds_sure}
use Rattle.card_string.proofs.each.an_acknowledged_keep_leaves_its_entries_by_hand.Goals as goal

pub returns-clause-sure : goal.returns-clause-sure
returns-clause-sure g c = λ app image h hands brought next began each sits. each_sure app image h hands brought next began (g.C.Chip.state c.args.card.now) each sits

pub returns-clause-told : goal.returns-clause-told
returns-clause-told g c = λ app image h brought next began x e each may sure day. holds_sure app image h brought next x e (each.now x may).1 sure day
