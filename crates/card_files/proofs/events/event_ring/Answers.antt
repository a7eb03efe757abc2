use Rattle.std.proofs.Common.{arith}
use Rattle.card_layout.proofs.Sizes.{largest_image}
use Rattle.card_files.proofs.events.event_ring.Goals as goal

pub at-requires-clause-short : goal.at-requires-clause-short
at-requires-clause-short c = omega (arith, largest_image c.args.app.now c.requires, c.set_place-base.ensures.image, c.from-count.ensures)
