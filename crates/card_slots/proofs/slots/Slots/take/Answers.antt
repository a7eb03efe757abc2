use Rattle.card_slots.proofs.Calling.{take-stands}
use Rattle.card_slots.proofs.Newest.{take-knows}
use Rattle.card_slots.proofs.slots.Slots.take.Goals as goal

pub returns-clause-stands : goal.returns-clause-stands
returns-clause-stands c = λ calls h. rw (c.set_seat.ensures, c.leave.ensures, c.seat.ensures) (take-stands c.args.self.now calls c.args.slot c.args.second c.requires.minute h)

pub returns-clause-newest : goal.returns-clause-newest
returns-clause-newest c = λ knows. rw (c.set_seat.ensures, c.leave.ensures, c.seat.ensures) (take-knows c.args.self.now c.args.slot c.args.second c.requires.minute knows)
