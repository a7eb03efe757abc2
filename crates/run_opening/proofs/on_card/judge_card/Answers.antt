use Rattle.run_opening.proofs.AsItWas.{as-it-was}
use Rattle.run_opening.proofs.on_card.judge_card.Goals as goal

pub returns-in-Ok-clause-same : goal.returns-in-Ok-clause-same
returns-in-Ok-clause-same g c = as-it-was (g.C.Chip.state c.args.card.now) (g.C.Chip.state c.open_card.new.card) _ c.open_card.ensures.revived.leaves c.open_card.ensures.revived.clock c.in-Ok.ensures.revived.cause

pub returns-in-Err-clause-same : goal.returns-in-Err-clause-same
returns-in-Err-clause-same g c = as-it-was (g.C.Chip.state c.args.card.now) (g.C.Chip.state c.open_card.new.card) _ c.open_card.ensures.revived.leaves c.open_card.ensures.revived.clock c.in-Err.ensures.revived.cause
