use Rattle.card_layout.specs.Outcomes.{outcome_of}
use Rattle.tach_media.proofs.Lending.{lent_does}
use Rattle.tach_media.proofs.chip.RefMutChip.transmit.Goals as goal

pub returns-clause-image : goal.returns-clause-image
returns-clause-image g c = lent_does c.args.self.now.ghost_name (outcome_of (g.C.Chip.card c.args.self.now.now) c.args.command.now).effect _ _ _ c.transmit.ensures.image
