use Rattle.std.proofs.Common.{arith}
use Rattle.card_files.proofs.Sets.{place_file}
use Rattle.card_files.proofs.rings.places.Goals as goal

pub load-requires-clause-inside : goal.load-requires-clause-inside
load-requires-clause-inside g c = omega (arith, place_file c.args.app.now, c.file_of-file.ensures.len, c.file_of-file.ensures.inside, c.from-count.ensures, c.requires.fits)
