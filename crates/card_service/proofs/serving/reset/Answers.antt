use Rattle.card_service.proofs.Cards.{revived}
use Rattle.card_service.proofs.serving.reset.Goals as goal

pub returns-in-Ok-clause-image : goal.returns-in-Ok-clause-image
returns-in-Ok-clause-image g c = revived (g.C.Chip.state c.args.chip.now) (g.C.Chip.state c.revive.new.self) (g.met.C.Chip.coherent c.args.chip.now) (g.met.C.Chip.coherent c.revive.new.self) c.in-Ok.ensures.moments

pub returns-in-Err-clause-image : goal.returns-in-Err-clause-image
returns-in-Err-clause-image g c = revived (g.C.Chip.state c.args.chip.now) (g.C.Chip.state c.revive.new.self) (g.met.C.Chip.coherent c.args.chip.now) (g.met.C.Chip.coherent c.revive.new.self) c.in-Err.ensures.moments
