use Rattle.std.proofs.Common.{rules, []}
use Rattle.card_slots.specs.Kept.{nothing_yet}
use Rattle.card_slots.proofs.Calling.{by-value, new-stands}
use Rattle.card_slots.proofs.Newest.{knows-by-value, new-knows}
use Rattle.card_slots.proofs.slots.Slots.new.Goals as goal

pub returns-clause-stands : goal.returns-clause-stands
returns-clause-stands c = by-value _ nothing_yet [] new-stands (search rules)

pub returns-clause-newest : goal.returns-clause-newest
returns-clause-newest c = knows-by-value _ nothing_yet new-knows (search rules)
