use Rattle.std.proofs.Common.{arith}
use Rattle.card_files.proofs.Sets.{vehicle_file}
use Rattle.card_files.proofs.rings.vehicles.Goals as goal

pub load-requires-clause-inside : goal.load-requires-clause-inside
load-requires-clause-inside g c = omega (arith, vehicle_file c.args.app.now, c.file_of-file.ensures.len, c.file_of-file.ensures.inside, c.from-count.ensures, c.requires.fits)
