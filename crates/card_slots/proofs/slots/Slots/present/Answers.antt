use Rattle.std.proofs.Common.{◌∙◌}
use Rattle.card_slots.proofs.Calling.{present-stands}
use Rattle.card_slots.proofs.Newest.{found_sits}
use Rattle.card_slots.proofs.slots.Slots.present.Goals as goal

pub returns-clause-present : goal.returns-clause-present
returns-clause-present c = λ calls h. c.kept_present.ensures ∙ present-stands c.args.self.now calls c.args.minute c.requires.ended h

pub returns-clause-newest : goal.returns-clause-newest
returns-clause-newest c = λ knows. found_sits c.args.self.now c.args.minute _ c.args.self.now.past knows.sit c.kept_present.ensures
