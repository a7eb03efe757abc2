use Rattle.card_slots.proofs.Calling.{put-stands}
use Rattle.card_slots.proofs.Newest.{put-knows}
use Rattle.card_slots.proofs.slots.Slots.put.Goals as goal

pub returns-clause-stands : goal.returns-clause-stands
returns-clause-stands c = λ calls h. rw c.set_seat.ensures (put-stands c.args.self.now calls c.args.slot c.args.card c.args.newest_minute h)

pub returns-clause-newest : goal.returns-clause-newest
returns-clause-newest c = λ knows. rw c.set_seat.ensures (put-knows c.args.self.now c.args.slot c.args.card c.args.newest_minute c.requires.free knows)
