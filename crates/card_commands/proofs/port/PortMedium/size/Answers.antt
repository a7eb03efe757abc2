use Rattle.std.proofs.Common.{arith}
use Rattle.card_layout.proofs.Sizes.{largest_image}
use Rattle.card_commands.proofs.port.PortMedium.size.Goals as goal

pub returns : goal.returns
returns g c = omega (arith, c.image_size.ensures, largest_image c.args.self.now.application c.args.self.now.sound.good, c.args.self.now.sound.size)
