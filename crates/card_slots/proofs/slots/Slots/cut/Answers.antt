use Rattle.std.proofs.Common.{rules, ◌++◌, ◌∷◌, []}
use Rattle.card_slots.specs.Calls.{CutAt}
use Rattle.card_slots.specs.Kept.{cut_off}
use Rattle.card_slots.proofs.Calling.{by-value, cut-stands}
use Rattle.card_slots.proofs.Newest.{knows-by-value, cut-knows}
use Rattle.card_slots.proofs.slots.Slots.cut.Goals as goal

pub returns-clause-stands : goal.returns-clause-stands
returns-clause-stands c = λ calls h.
    by-value _ (cut_off c.args.second c.args.self.now) (calls ++ CutAt c.args.second ∷ []) (cut-stands c.args.self.now calls c.args.second c.requires.minute h) (search rules)

pub returns-clause-newest : goal.returns-clause-newest
returns-clause-newest c = λ knows. knows-by-value _ (cut_off c.args.second c.args.self.now) (cut-knows c.args.self.now c.args.second c.requires.minute knows) (search rules)
