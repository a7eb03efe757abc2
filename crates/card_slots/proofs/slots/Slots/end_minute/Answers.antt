use Rattle.card_slots.proofs.Calling.{end-stands}
use Rattle.card_slots.proofs.Newest.{end-knows}
use Rattle.card_slots.proofs.slots.Slots.end_minute.Goals as goal

pub returns-clause-stands : goal.returns-clause-stands
returns-clause-stands c = λ calls h. rw (c.remember.ensures, c.ending.ensures) (end-stands c.args.self.now calls c.args.minute c.requires.minute h)

pub returns-clause-newest : goal.returns-clause-newest
returns-clause-newest c = λ knows. rw (c.remember.ensures, c.ending.ensures) (end-knows c.args.self.now c.args.minute c.requires.minute knows)
