use Rattle.std.proofs.Common.{arith}
use Rattle.card_layout.proofs.Sizes.{largest_image}
use Rattle.card_files.proofs.Sets.{event_file}
use Rattle.card_files.proofs.events.set_place.Goals as goal

pub overflow_add-result : goal.overflow_add-result
overflow_add-result c = omega (arith, event_file c.args.app.now, largest_image c.args.app.now c.requires, c.file_of-base.ensures.len, c.file_of-base.ensures.inside, c.set_offset-offset.ensures.inside)

pub returns-clause-image : goal.returns-clause-image
returns-clause-image c = omega (arith, event_file c.args.app.now, c.file_of-base.ensures.len, c.file_of-base.ensures.inside, c.set_offset-offset.ensures.inside)
