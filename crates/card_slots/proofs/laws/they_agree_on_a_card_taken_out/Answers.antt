use Rattle.card_slots.proofs.Agreeing.{take-agrees}
use Rattle.card_slots.proofs.laws.they_agree_on_a_card_taken_out.Goals as goal

pub returns : goal.returns
returns c = take-agrees
