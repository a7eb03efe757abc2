use Rattle.std.proofs.Common.{arith}
use Rattle.card_layout.proofs.Sizes.{largest_image}
use Rattle.card_commands.proofs.port.PortMedium.read_at.Goals as goal

pub read_all-requires-clause-short : goal.read_all-requires-clause-short
read_all-requires-clause-short g c = omega (arith, c.requires, largest_image c.args.self.now.application c.args.self.now.sound.good)
