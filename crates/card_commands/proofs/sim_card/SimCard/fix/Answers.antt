use Rattle.card_commands.proofs.Parts.{goes_by_image}
use Rattle.card_commands.proofs.sim_card.SimCard.fix.Goals as goal

pub returns-in-Some-clause-image : goal.returns-in-Some-clause-image
returns-in-Some-clause-image g c = goes_by_image c.args.self.now.card c.args.self.now.works (g.M.Medium.state c.args.self.now.medium) c.in-Some.application (g.met.M.Medium.coherent c.args.self.now.medium) c.args.self.now.sound c.in-Some.is
