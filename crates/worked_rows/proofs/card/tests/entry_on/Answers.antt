use Rattle.std.proofs.Common.{arith}
use Rattle.card_layout.proofs.Sizes.{largest_image}
use Rattle.worked_rows.proofs.card.tests.entry_on.Goals as goal

pub entry_in-requires-clause-inside : goal.entry_in-requires-clause-inside
entry_in-requires-clause-inside g c =
    let port = c.in_ok-port.port in
    grind (arith, c.application-app.ensures.value, c.file_of_vehicles.ensures.inside, largest_image port.application port.sound.good, port.sound.size)
