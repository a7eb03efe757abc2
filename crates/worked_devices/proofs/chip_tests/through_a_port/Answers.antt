use Rattle.std.proofs.Common.{inl, arith}
use Rattle.card_layout.specs.declared.files.Application.{Application}
use Rattle.card_layout.specs.Application.{IsApplication}
use Rattle.card_layout.specs.Files.{files_of}
use Rattle.card_layout.proofs.Sizes.{smallest_image}
use Rattle.tach_media.specs.Medium.{LiesInside}
use Rattle.card_commands.specs.Ports.{writable_of}
use Rattle.worked_devices.proofs.chip_tests.through_a_port.Goals as goal

-- the events of the smallest card have more than 300 bytes
events_writable : (app : Application) → IsApplication app → LiesInside (writable_of app) 43 300
unfolding files_of
events_writable app good = inl (omega arith, omega (arith, good.events_least))

pub write_at-requires-clause-inside : goal.write_at-requires-clause-inside
write_at-requires-clause-inside g c = let port = c.in_ok-port.port in omega (arith, smallest_image port.application port.sound.good, port.sound.size)

pub write_at-requires-clause-writable : goal.write_at-requires-clause-writable
write_at-requires-clause-writable g c = events_writable c.in_ok-port.port.application c.in_ok-port.port.sound.good

pub read_at-requires : goal.read_at-requires
read_at-requires g c = let port = c.write_at.new.self in omega (arith, smallest_image port.application port.sound.good, port.sound.size)
