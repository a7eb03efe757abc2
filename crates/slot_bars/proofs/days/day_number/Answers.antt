use Rattle.slot_bars.proofs.DayRuns.{first_of_day, first_low}
use Rattle.slot_bars.proofs.days.day_number.Goals as goal

pub returns-clause-day : goal.returns-clause-day
returns-clause-day g c = first_of_day c.args.lines.now c.index-lines-0.result c.requires.some c.requires.each

pub returns-clause-low : goal.returns-clause-low
returns-clause-low g c = first_low c.args.lines.now c.index-lines-0.result c.requires.some c.requires.each
