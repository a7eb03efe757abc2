use Rattle.card_slots.proofs.Agreeing.{cut-agrees}
use Rattle.card_slots.proofs.laws.they_agree_on_power_lost.Goals as goal

pub returns : goal.returns
returns c = cut-agrees
