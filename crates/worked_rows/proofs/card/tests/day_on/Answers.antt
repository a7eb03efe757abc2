use Rattle.std.proofs.Common.{arith}
use Rattle.card_layout.proofs.Sizes.{largest_image}
use Rattle.worked_rows.proofs.card.tests.day_on.Goals as goal

pub day_in-requires-clause-inside : goal.day_in-requires-clause-inside
day_in-requires-clause-inside g c =
    let port = c.in_ok-port.port in
    grind (arith, c.application.ensures.value, c.file_of_days.ensures.inside, largest_image port.application port.sound.good, port.sound.size)
