use Rattle.card_slots.proofs.Agreeing.{put-agrees}
use Rattle.card_slots.proofs.laws.they_agree_on_a_card_put_in.Goals as goal

pub returns : goal.returns
returns c = put-agrees
