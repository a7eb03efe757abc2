use Rattle.unit_messages.proofs.Choosing.{touching_first, touching_next}
use Rattle.unit_messages.proofs.entries.Choice.takes.Goals as goal

pub returns-then-is_in_day : goal.returns-then-is_in_day
returns-then-is_in_day c = touching_first c.args.self.now c.in-Touching.date c.args.entry.now c.is_in_day.result c.four_in.result c.in-Touching.is c.is_in_day.ensures c.four_in.ensures c.if-is_in_day.true

pub returns-else-is_in_day : goal.returns-else-is_in_day
returns-else-is_in_day c =
    touching_next c.args.self.now c.in-Touching.date c.args.entry.now c.is_in_day.result c.is_in_day-else-is_in_day.result c.four_in.result c.four_in-else-is_in_day.result c.in-Touching.is c.is_in_day.ensures c.four_in.ensures c.if-is_in_day.false
    c.is_in_day-else-is_in_day.ensures c.four_in-else-is_in_day.ensures
