use Rattle.std.proofs.Common.{arith}
use Rattle.unit_messages.proofs.outline.rows.places_on.Goals as goal

pub returns-clause-entries : goal.returns-clause-entries
returns-clause-entries c = record { inside = omega arith; gate = omega arith; narrow = omega arith; few = omega arith; room = omega arith }
